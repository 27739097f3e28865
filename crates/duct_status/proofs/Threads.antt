-- A field of type `Shape` is Send and Sync, so is one of type `Arc<Shape>`, and a field of type
-- `Core` is Send.
use denote.Param.Send.{IsSend, IsSync, sendable}
use Rattle.std.proofs.Crossing.{crosses, Arc-send, Arc-sync, Box-send, Box-sync}
use Rattle.std.specs.contracts.alloc.Global as Heap
use Rattle.std.specs.contracts.impls.GlobalAllocator.TheImpl.{ghosts}
use Rattle.std.specs.contracts.sync.Arc
use Rattle.duct_status.specs.contracts.status.Shape
use Rattle.duct_status.specs.contracts.status.Core
use Rattle.duct_status.proofs.status.Shape.TheLaws.TheKnot.{send-Shape, sync-Shape}

pub shape_field_send : IsSend (Shape.the_field).row
shape_field_send = send-Shape (search (sendable, crosses) depth 30) Box-send

pub shape_field_sync : IsSync (Shape.the_field).row
shape_field_sync = sync-Shape (search (sendable, crosses) depth 30) Box-sync

shape_send : IsSend Shape.the_row
shape_send = search (shape_field_send, sendable) depth 20

shape_sync : IsSync Shape.the_row
shape_sync = search (shape_field_sync, sendable) depth 20

pub shared_shape_send : IsSend (Arc.the_row Shape.the_row Heap.the_row ghosts)
shared_shape_send = Arc-send Shape.the_row shape_send shape_sync

pub shared_shape_sync : IsSync (Arc.the_row Shape.the_row Heap.the_row ghosts)
shared_shape_sync = Arc-sync Shape.the_row shape_send shape_sync

pub core_field_send : IsSend (Core.the_field).row
core_field_send = search (shared_shape_send, sendable, crosses) depth 40 fits 40000

-- A handle may be shared between threads if its children and its workers may be sent to another
-- thread.
use denote.Builtin.{u32}
use denote.Param.Send.{IsSend, IsSync, sendable, struct_send, struct_sync, view_sync, recorded_send, recorded_sync}
use denote.RattleType.{RattleType}
use denote.Struct.Declared.{shape}
use denote.Struct.Field
use Rattle.std.proofs.Crossing.{Box-send, Vec-sync}
use Rattle.std.proofs.sync.Mutex.TheSendSync as mutex
use Rattle.std.specs.contracts.alloc.Global as Heap
use Rattle.std.specs.contracts.boxed.Box
use Rattle.std.specs.contracts.impls.GlobalAllocator.TheImpl.{ghosts}
use Rattle.std.specs.declared.alloc.Global
use Rattle.std.specs.declared.io.traits.Read
use Rattle.std.specs.declared.sync.Arc
use Rattle.std.specs.declared.vec.Vec
use Rattle.once_cell.proofs.race.once_box.OnceBox.TheSendSync as box
use Rattle.duct_system.specs.declared.system.Child
use Rattle.duct_system.specs.declared.system.Job
use Rattle.duct_system.specs.declared.system.Numbered
use Rattle.duct_system.specs.declared.system.System
use Rattle.duct_status.proofs.Threads.{shared_shape_send, shared_shape_sync}
use Rattle.duct_running.proofs.numbers.Numbers.TheSendSync as numbers
use Rattle.duct_running.proofs.Threads.{running_send}
use Rattle.duct_handle.specs.contracts.published.Published
use Rattle.duct_handle.specs.contracts.lock.HandleState
use Rattle.duct_handle.specs.contracts.lock.Lock
use Rattle.duct_handle.specs.contracts.handle.Handle
use Rattle.duct_handle.specs.contracts.handle.Handle.TheInside
use Rattle.duct_handle.proofs.published.Answer.TheSendSync as answer

module _ (S E C F D R : RattleType)
    (s : System.Ghosts S.Denot E.Denot C.Denot F.Denot D.Denot R.Denot)
    (e : Numbered.Ghosts E.Denot)
    (c : Child.Ghosts C.Denot) (cn : Numbered.Ghosts C.Denot)
    (f : Job.Ghosts F.Denot (Field.unit-field).Value) (fn : Numbered.Ghosts F.Denot)
    (d : Job.Ghosts D.Denot (Arc.Arc (Vec.Vec (Field.u8-field).Value Global.Global) Global.Global))
    (dn : Numbered.Ghosts D.Denot)
    (r : Read.Ghosts R.Denot) where
  published_field_send : IsSend (Published.the_field S E C F D R s e c cn f fn d dn r).row
  published_field_send = struct_send (shape (Published.the_type S E C F D R s e c cn f fn d dn r))
      (shared_shape_send, (numbers.the_field_send, (search (answer.the_send, sendable) depth 20, (search sendable depth 20, tt))))

  published_field_sync : IsSync (Published.the_field S E C F D R s e c cn f fn d dn r).row
  published_field_sync = struct_sync (shape (Published.the_type S E C F D R s e c cn f fn d dn r))
      (shared_shape_sync, (numbers.the_field_sync, (search (answer.the_sync, sendable) depth 20, (search sendable depth 20, tt))))

  published_send : IsSend (Published.the_row S E C F D R s e c cn f fn d dn r)
  published_send = recorded_send _ _ _ (Published.the_type S E C F D R s e c cn f fn d dn r).to_one published_field_send

  published_sync : IsSync (Published.the_row S E C F D R s e c cn f fn d dn r)
  published_sync = recorded_sync _ _ _ (Published.the_type S E C F D R s e c cn f fn d dn r).to_one published_field_sync

  spare_send : IsSend (Box.the_row (Published.the_row S E C F D R s e c cn f fn d dn r) Heap.the_row ghosts)
  spare_send = Box-send (Published.the_row S E C F D R s e c cn f fn d dn r) published_send

  locked_field_send : IsSend C → IsSend F → IsSend D
      → IsSend (HandleState.the_field S E C F D R s e c cn f fn d dn r).row
  locked_field_send child feed drain = struct_send
      (shape (HandleState.the_type S E C F D R s e c cn f fn d dn r)) (
        running_send S E C F D R s e c cn f fn d dn r child feed drain,
        (search (spare_send, sendable) depth 20, tt),
      )

  locked_send : IsSend C → IsSend F → IsSend D
      → IsSend (HandleState.the_row S E C F D R s e c cn f fn d dn r)
  locked_send child feed drain = recorded_send _ _ _
      (HandleState.the_type S E C F D R s e c cn f fn d dn r).to_one
      (locked_field_send child feed drain)

  lock_field_sync : IsSend C → IsSend F → IsSend D
      → IsSync (Lock.the_field S E C F D R s e c cn f fn d dn r).row
  lock_field_sync child feed drain = struct_sync
      (shape (Lock.the_type S E C F D R s e c cn f fn d dn r)) (
        mutex.the_sync (HandleState.the_row S E C F D R s e c cn f fn d dn r) (locked_send child feed drain),
        tt,
      )

  fields_sync : IsSend C → IsSend F → IsSend D
      → IsSync (TheInside.the_field S E C F D R s e c cn f fn d dn r).row
  fields_sync child feed drain = struct_sync
      (shape (TheInside.the_type S E C F D R s e c cn f fn d dn r)) (
        search sendable depth 20,
        (
          shared_shape_sync,
          (
            numbers.the_field_sync,
            (
              Vec-sync u32 (search sendable),
              (
                lock_field_sync child feed drain,
                (
                  box.the_sync (Published.the_row S E C F D R s e c cn f fn d dn r) published_send published_sync,
                  tt,
                ),
              ),
            ),
          ),
        ),
      )

  inside_sync : IsSend C → IsSend F → IsSend D
      → IsSync (TheInside.the_row S E C F D R s e c cn f fn d dn r)
  inside_sync child feed drain = recorded_sync _ _ _
      (TheInside.the_type S E C F D R s e c cn f fn d dn r).to_one
      (fields_sync child feed drain)

  pub handle_sync : IsSend C → IsSend F → IsSend D
      → IsSync (Handle.the_row S E C F D R s e c cn f fn d dn r)
  handle_sync child feed drain = view_sync
      (TheInside.the_row S E C F D R s e c cn f fn d dn r) _ _ _ _
      (inside_sync child feed drain)

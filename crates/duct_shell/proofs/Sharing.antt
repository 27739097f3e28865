-- What a program owes that shares a handle of the machine's host with other threads: that a handle
-- may be shared, since its children and its workers may be sent to another thread.
use mir.Syntax.{Lifetime, Ty}
use base.Fml.{Lft}
use denote.Exit.{Kept}
use denote.Param.{arg, param}
use denote.Param.Send.{IsSend, IsSync, arg_send, arg_sync, param_send, param_sync, recorded_send, sendable, struct_send}
use denote.RattleType.{RattleType}
use denote.Ref.{ShrRef}
use denote.Struct.Declared.{shape}
use denote.Struct.Field
use Rattle.std.proofs.Crossing.{crosses}
use Rattle.std.proofs.sync.OnceLock.TheSendSync as once_lock
use Rattle.std.specs.contracts.alloc.Global
use Rattle.std.specs.contracts.impls.GlobalAllocator.TheImpl as heap
use Rattle.std.specs.contracts.process.pipes.ChildStderr
use Rattle.std.specs.contracts.process.pipes.ChildStdin
use Rattle.std.specs.contracts.process.pipes.ChildStdout
use Rattle.std.specs.contracts.process.system.SystemProcess
use Rattle.std.specs.contracts.rt.LibcRuntime
use Rattle.std.specs.contracts.result.Result
use Rattle.std.specs.contracts.sync.Arc
use Rattle.std.specs.contracts.sync.OnceLock
use Rattle.std.specs.contracts.vec.Vec
use Rattle.std.specs.declared.io.traits.Read
use Rattle.duct_system.specs.contracts.system.Fault
use Rattle.duct_system.specs.contracts.system.Said
use Rattle.duct_system.specs.declared.system.Child as the_child
use Rattle.duct_system.specs.declared.system.Job
use Rattle.duct_system.specs.declared.system.Numbered
use Rattle.duct_system.specs.declared.system.System
use Rattle.duct_base.specs.contracts.shared.ArcVecU8Shared.TheImpl as bytes_shared
use Rattle.duct_base.specs.contracts.shared.UnitShared.TheImpl as unit_shared
use Rattle.duct_base.specs.contracts.worker.Worker
use Rattle.duct_base.specs.declared.shared.Shared
use Rattle.duct_running.proofs.Threads.{running_send}
use Rattle.duct_running.specs.contracts.running.Running
use Rattle.duct_handle.proofs.Threads.{handle_sync}
use Rattle.duct_handle.specs.contracts.handle.Handle
use Rattle.duct_host.specs.contracts.child.Child
use Rattle.duct_host.specs.contracts.child.SeenEnding
use Rattle.duct_host.specs.contracts.end.End
use Rattle.duct_host.specs.contracts.reader.Reader

-- a reference to the machine's runtime
abbrev runtime_row : Lifetime → Lft → RattleType
runtime_row ℓ κ = ShrRef ℓ κ LibcRuntime.the_row

-- how a poll saw a child end
seen_send : IsSend (SeenEnding.the_field).row
seen_send = search (sendable, crosses) depth 40

-- a child of the host
abbrev child_row : Lifetime → Lft → RattleType
child_row ℓ κ = Child.the_row (runtime_row ℓ κ) SystemProcess.the_row ChildStdin.the_row ChildStdout.the_row ChildStderr.the_row

-- a child may be sent
pub child_send : (ℓ : Lifetime) (κ : Lft) → IsSend (child_row ℓ κ)
child_send ℓ κ =
    let child = Child.the_type (ShrRef ℓ κ LibcRuntime.the_row) SystemProcess.the_row ChildStdin.the_row ChildStdout.the_row ChildStderr.the_row in
    recorded_send _ _ _ child.to_one (struct_send (shape child) (search (sendable, crosses) depth 40, (search (sendable, crosses) depth 40, (search sendable, (search sendable, (search sendable, (search sendable, (search (sendable, crosses) depth 40, (seen_send, (search (sendable, crosses) depth 40, (search (sendable, crosses) depth 40, (search (sendable, crosses) depth 40, tt))))))))))))

-- a worker may be sent if its result may
worker_send : (T : RattleType) (g : Shared.Ghosts T.Denot) → IsSend (Arc.the_row
    (OnceLock.the_row (Result.the_row T Fault.the_row)) Global.the_row heap.ghosts)
    → IsSend (Said.the_field T).row → IsSend (Worker.the_row T g)
worker_send T g left said = recorded_send _ _ _ (Worker.the_type T g).to_one
    (struct_send (shape (Worker.the_type T g)) (search sendable, (search sendable, (left, (said, (search sendable, tt))))))

-- an input worker
abbrev feed_row : RattleType
feed_row = Worker.the_row (Field.unit-field).row unit_shared.ghosts

-- an input worker may be sent
feed_send : IsSend feed_row
feed_send = worker_send (Field.unit-field).row unit_shared.ghosts (search (once_lock.the_send, once_lock.the_sync, sendable, crosses) depth 40)
    (search sendable depth 20)

-- the bytes that a capture worker reads
abbrev bytes_row : RattleType
bytes_row = Arc.the_row (Vec.the_row (Field.u8-field).row Global.the_row heap.ghosts) Global.the_row heap.ghosts

-- a capture worker
abbrev drain_row : RattleType
drain_row = Worker.the_row bytes_row bytes_shared.ghosts

-- a capture worker may be sent
drain_send : IsSend drain_row
drain_send = worker_send bytes_row bytes_shared.ghosts (search (once_lock.the_send, once_lock.the_sync, sendable, crosses) depth 40)
    (search (sendable, crosses) depth 20)

-- what a program owes, as its goals name it, whatever the ghost members, over each system that has
-- the ends, the workers and the readers of the host
module _ (δ : Ty) (k : Kept) (S C : RattleType)
    (s : System.Ghosts S.Denot (End.the_row).Denot C.Denot feed_row.Denot drain_row.Denot (Reader.the_row).Denot)
    (e : Numbered.Ghosts (End.the_row).Denot)
    (c : the_child.Ghosts C.Denot) (cn : Numbered.Ghosts C.Denot)
    (f : Job.Ghosts feed_row.Denot (Field.unit-field).Value) (fn : Numbered.Ghosts feed_row.Denot)
    (d : Job.Ghosts drain_row.Denot bytes_row.Denot) (dn : Numbered.Ghosts drain_row.Denot)
    (r : Read.Ghosts (Reader.the_row).Denot) where
  -- a handle may be shared if a child may be sent
  pub arg_handle_sync : IsSend C → IsSync (param 0 (arg δ k (Handle.the_row S End.the_row C feed_row drain_row Reader.the_row s e c cn f fn d dn r)))
  arg_handle_sync child = param_sync 0 _ (arg_sync δ k _ (handle_sync S End.the_row C feed_row drain_row Reader.the_row s e c cn f fn d dn r
      child feed_send drain_send))

  -- what runs may be sent if a child may
  pub arg_running_send : IsSend C → IsSend (param 0 (arg δ k (Running.the_row S End.the_row C feed_row drain_row Reader.the_row s e c cn f fn d dn r)))
  arg_running_send child = param_send 0 _ (arg_send δ k _ (running_send S End.the_row C feed_row drain_row Reader.the_row s e c cn f fn d dn r
      child feed_send drain_send))

-- over a host whose runtime is a reference, a handle may be shared; over another system with its
-- ends, workers and readers too, where `search` has a lemma that the children may be sent beside it
pub ruleset main_handle_sync = (arg_handle_sync, child_send)

-- what runs may be sent
pub ruleset main_running_send = (arg_running_send, child_send)

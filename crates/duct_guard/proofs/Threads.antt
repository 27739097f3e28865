-- A child of a guarded system may be sent to another thread if the child below may.
use denote.Param.Send.{IsSend, IsSync, recorded_send, sendable, struct_send}
use denote.RattleType.{RattleType}
use denote.Struct.Declared.{shape}
use Rattle.std.proofs.Crossing.{crosses}
use Rattle.std.proofs.sync.OnceLock.TheSendSync as once_lock
use Rattle.duct_system.specs.declared.system.Child
use Rattle.duct_system.specs.declared.system.Numbered
use Rattle.duct_guard.specs.contracts.crew.Ended
use Rattle.duct_guard.specs.contracts.crew.GuardedChild

module _ (C : RattleType) (c : Child.Ghosts C.Denot) (cn : Numbered.Ghosts C.Denot) where
  -- the note of an end may be sent
  ended_send : IsSend (Ended.the_row C c cn)
  ended_send = search sendable depth 40

  -- it may be shared
  ended_sync : IsSync (Ended.the_row C c cn)
  ended_sync = search sendable depth 40

  -- a child may be sent
  pub guarded_child_send : IsSend C → IsSend (GuardedChild.the_row C c cn)
  guarded_child_send child = recorded_send _ _ _ (GuardedChild.the_type C c cn).to_one
      (struct_send (shape (GuardedChild.the_type C c cn)) (child, (search (once_lock.the_send, once_lock.the_sync, ended_send, ended_sync, sendable, crosses) depth 40, tt)))

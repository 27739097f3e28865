use denote.Exit.{no}
use denote.Param.Send.{param_send, arg_send, param_sync}
use Rattle.tests.proofs.Shares.{waits_send}
use Rattle.tests.proofs.threads.knows_beside_kills.Goals as goal

pub join-killed-requires-send-F : goal.join-killed-requires-send-F
join-killed-requires-send-F g c κs within =
    param_send 1 _ (arg_send _ no _ (waits_send _ _ _ _ _ _ (param_sync 0 _ c.type_bounds.sync-R)))

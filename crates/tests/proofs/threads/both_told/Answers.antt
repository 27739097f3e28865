use denote.Exit.{no}
use denote.Param.Send.{param_send, arg_send, param_sync}
use Rattle.tests.proofs.Shares.{waits_send}
use Rattle.tests.proofs.threads.both_told.Goals as goal

pub join-one-requires-send-F : goal.join-one-requires-send-F
join-one-requires-send-F g c κs within =
    param_send 1 _ (arg_send _ no _ (waits_send _ _ _ _ _ _ (param_sync 0 _ c.type_bounds.sync-R)))

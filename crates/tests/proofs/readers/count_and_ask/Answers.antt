use denote.Exit.{no}
use denote.Param.Send.{param_send, arg_send, param_sync, shr_sync}
use Rattle.tests.proofs.Shares.{reads_send}
use Rattle.tests.proofs.readers.count_and_ask.Goals as goal

pub join-requires-send-F : goal.join-requires-send-F
join-requires-send-F g c κs within =
    param_send 1 _ (arg_send _ no _ (reads_send _ _ _ _ (shr_sync _ _ _ (param_sync 0 _ c.type_bounds.sync-R))))

use Rattle.duct_shell.proofs.Sharing.{main_handle_sync}
use Rattle.tests.proofs.machine.eight_threads_are_told_the_same.Goals as goal

pub eight_agree-agree-requires-sync-H : goal.eight_agree-agree-requires-sync-H
eight_agree-agree-requires-sync-H g c κs = search main_handle_sync

use Rattle.duct_shell.proofs.Sharing.{main_handle_sync}
use Rattle.examples.proofs.examples.threads.a_late_command_is_killed.Goals as goal

pub wait_or_kill-ended-requires-sync-H : goal.wait_or_kill-ended-requires-sync-H
wait_or_kill-ended-requires-sync-H g c κs = search main_handle_sync

-- Each call has one command fewer to write.
use Rattle.std.proofs.Common.{length}
use Rattle.duct_tasks.proofs.failed_run.+write_failed.Given as goal

abbrev pub decreases-write_failed : goal.decreases-write_failed
decreases-write_failed g l = length l.commands.now

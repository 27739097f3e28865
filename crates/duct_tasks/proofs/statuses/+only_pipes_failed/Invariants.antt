-- Each call has one command fewer.
use Rattle.std.proofs.Common.{length}
use Rattle.duct_tasks.proofs.statuses.+only_pipes_failed.Given as goal

abbrev pub decreases-only_pipes_failed : goal.decreases-only_pipes_failed
decreases-only_pipes_failed l = length l.commands.now

-- Each call has one command fewer to write.
use Rattle.std.proofs.Common.{length}
use Rattle.duct_tasks.proofs.late.+write_hung.Given as goal

abbrev pub decreases-write_hung : goal.decreases-write_hung
decreases-write_hung g l = length l.commands.now

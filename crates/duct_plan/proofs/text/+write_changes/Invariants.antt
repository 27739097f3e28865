-- Each call has one change fewer to write.
use Rattle.std.proofs.Common.{length}
use Rattle.duct_plan.proofs.text.+write_changes.Given as goal

abbrev pub decreases-write_changes : goal.decreases-write_changes
decreases-write_changes g l = length l.changes.now

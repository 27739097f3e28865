-- Each call has one variable fewer to write.
use Rattle.std.proofs.Common.{length}
use Rattle.duct_plan.proofs.text.+write_variables.Given as goal

abbrev pub decreases-write_variables : goal.decreases-write_variables
decreases-write_variables g l = length l.rest

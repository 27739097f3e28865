-- Each call has one variable fewer to write.
use Rattle.std.proofs.Common.{length}
use Rattle.duct_tree.proofs.tree.+write_vars.Given as goal

abbrev pub decreases-write_vars : goal.decreases-write_vars
decreases-write_vars g l = length l.rest

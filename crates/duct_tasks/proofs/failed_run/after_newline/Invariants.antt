-- What follows the first newline of the rest follows that of all.
use Rattle.std.proofs.Common.{◌≡◌, length}
use Rattle.std.specs.Io.BufRead.{drop_through}
use Rattle.duct_tasks.proofs.failed_run.after_newline.Given as goal

abbrev pub invariant-loop-first : goal.invariant-loop-first
invariant-loop-first l = drop_through 10 l.rest ≡ drop_through 10 l.bytes

abbrev pub decreases-loop-first : goal.decreases-loop-first
decreases-loop-first l = length l.rest

-- The buffer keeps its length.
use Rattle.std.proofs.Common.{◌≡◌, ◌-◌, length}
use Rattle.duct_handle.proofs.io.read_full.Given as goal

abbrev pub invariant-loop-at : goal.invariant-loop-at
invariant-loop-at g l = length l.buf ≡ length l.initial.buf

abbrev pub decreases-loop-at : goal.decreases-loop-at
decreases-loop-at g l = length l.initial.buf - l.at

-- All bytes taken off the end are line ends.
use Rattle.std.proofs.Common.{◌≡◌, ℕ, List, ◌++◌, length}
use Rattle.duct_handle.proofs.Common.{trimmed}
use Rattle.duct_handle.proofs.text.text_length.Given as goal

abbrev pub invariant-loop-last : goal.invariant-loop-last
invariant-loop-last l = (tail : List ℕ) × (l.bytes ≡ l.front ++ tail)
    × (trimmed l.front ≡ trimmed l.bytes)

abbrev pub decreases-loop-last : goal.decreases-loop-last
decreases-loop-last l = length l.front

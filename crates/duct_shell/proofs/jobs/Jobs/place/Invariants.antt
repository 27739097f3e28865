-- No place before has the key.
use Rattle.std.proofs.Common.{◌≡◌, ℕ, ◌<◌, ◌-◌, false, get_or, length}
use Rattle.duct_shell.specs.Jobs.{is_key}
use Rattle.duct_shell.proofs.jobs.Jobs.place.Given as goal

abbrev pub invariant-loop-place : goal.invariant-loop-place
invariant-loop-place g l = (k : ℕ) → k < l.place → (d : _) → is_key l.job (get_or l.self.kept k d) ≡ false

abbrev pub decreases-loop-place : goal.decreases-loop-place
decreases-loop-place g l = length l.self.kept - l.place

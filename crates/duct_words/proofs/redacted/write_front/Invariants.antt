-- What is no longer in the rest was written, and nothing stopped the writer.
use Rattle.std.proofs.Common.{◌≡◌, ℕ, List, ◌++◌, None, length}
use Rattle.std.specs.Io.KnownBytes.{Appends}
use Rattle.duct_words.proofs.redacted.write_front.Given as goal

abbrev pub invariant-loop-watched : goal.invariant-loop-watched
invariant-loop-watched g l = (l.watched.stopped ≡ None)
    × (l.watched.inner.ghost_name ≡ l.initial.watched.inner.ghost_name)
    × ((done : List ℕ) × (l.initial.rest ≡ done ++ l.rest)
    × Appends (g.W.Write.contents l.initial.watched.inner.now)
    (g.W.Write.contents l.watched.inner.now) done)

abbrev pub decreases-loop-watched : goal.decreases-loop-watched
decreases-loop-watched g l = length l.rest

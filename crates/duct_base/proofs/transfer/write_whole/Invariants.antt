-- What is no longer in the rest was written, and nothing stopped the writer.
use Rattle.std.proofs.Common.{◌≡◌, ℕ, List, ◌++◌, None, length}
use Rattle.std.specs.Io.KnownBytes.{Appends}
use Rattle.duct_base.proofs.transfer.write_whole.Given as goal

abbrev pub invariant-loop-rest : goal.invariant-loop-rest
invariant-loop-rest g l = (l.writer.stopped ≡ None)
    × (l.writer.inner.ghost_name ≡ l.initial.writer.inner.ghost_name)
    × ((done : List ℕ) × (l.initial.rest ≡ done ++ l.rest)
    × Appends (g.W.Write.contents l.initial.writer.inner.now)
    (g.W.Write.contents l.writer.inner.now) done)

abbrev pub decreases-loop-rest : goal.decreases-loop-rest
decreases-loop-rest g l = length l.rest

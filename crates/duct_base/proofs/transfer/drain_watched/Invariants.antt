-- The bytes that are filled were read, and nothing stopped the reader.
use Rattle.std.proofs.Common.{◌≡◌, ◌≤◌, None, vec_len, take}
use Rattle.std.specs.Io.KnownBytes.{Consumes}
use Rattle.duct_base.proofs.transfer.drain_watched.Given as goal

abbrev pub invariant-loop : goal.invariant-loop
invariant-loop g l = (l.reader.stopped ≡ None)
    × (l.reader.inner.ghost_name ≡ l.initial.reader.inner.ghost_name)
    × (l.filled ≤ vec_len l.bytes)
    × Consumes (g.R.Read.remaining l.initial.reader.inner.now)
    (g.R.Read.remaining l.reader.inner.now) (take l.filled l.bytes.items)

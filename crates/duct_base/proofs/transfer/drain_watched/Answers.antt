use Rattle.std.proofs.Common.{rules, []}
use Rattle.std.proofs.KnownBytes.{Consumes-all}
use Rattle.duct_base.proofs.Transfers.{filled_more, lost_at_error}
use Rattle.duct_base.proofs.transfer.drain_watched.Goals as goal

pub loop-preserved : goal.loop-preserved
loop-preserved g c =
    let now = c.in_ok-read.ensures in
    let before = c.loop.invariant.3 in (
      now.open,
      search rules,
      now.fits,
      filled_more _ _ _ c.loop.bytes.items _ c.loop.filled _ now.front before now.ok,
    )

pub returns-in_err-read-clause-lost : goal.returns-in_err-read-clause-lost
returns-in_err-read-clause-lost g c =
    lost_at_error _ _ _ _ _ c.loop.invariant.3 c.in_err-read.ensures.err

pub returns-then-read-eq0-clause-bytes : goal.returns-then-read-eq0-clause-bytes
returns-then-read-eq0-clause-bytes g c =
    let now = c.in_ok-read.ensures in
    let before = c.loop.invariant.3 in
    let all = filled_more _ _ _ c.loop.bytes.items _ c.loop.filled _ now.front before now.ok in
    Consumes-all _ _ _ [] _ all (now.end (search rules)) (search rules)

use Rattle.std.proofs.Common.{rules}
use Rattle.duct_base.proofs.Transfers.{writes_more}
use Rattle.duct_words.proofs.redacted.write_front.Goals as goal

pub loop-watched-preserved : goal.loop-watched-preserved
loop-watched-preserved g c =
    let (done, split, before) = c.loop-watched.invariant.2 in (
      search rules,
      search rules,
      writes_more _ _ _ _ done _ _ split before c.in_ok-taken.ensures.ok,
    )

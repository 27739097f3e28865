use Rattle.std.proofs.Common.{rules}
use Rattle.duct_base.proofs.Transfers.{writes_more}
use Rattle.duct_base.proofs.transfer.write_whole.Goals as goal

pub loop-rest-preserved : goal.loop-rest-preserved
loop-rest-preserved g c =
    let (done, split, before) = c.loop-rest.invariant.2 in (
      search rules,
      search rules,
      writes_more _ _ _ _ done _ _ split before c.in-Ok.ensures.ok,
    )

use Rattle.duct_system.proofs.Texts.{pairs_decide}
use Rattle.duct_system.proofs.same.same_vars.Goals as goal

pub returns : goal.returns
returns c = pairs_decide c.args.one.now c.args.other.now c.eq.result c.eq.ensures

use Rattle.std.proofs.Common.{rules}
use Rattle.duct_host.proofs.child.ChildNumbered.number.Goals as goal

pub returns : goal.returns
returns g c = search rules

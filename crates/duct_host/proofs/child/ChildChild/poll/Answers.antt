use Rattle.std.proofs.Common.{rules}
use Rattle.duct_host.proofs.child.ChildChild.poll.Goals as goal

pub returns : goal.returns
returns g c = search rules

use Rattle.std.proofs.Common.{rules}
use Rattle.duct_host.proofs.host.Host.new.Goals as goal

pub returns : goal.returns
returns g c = search rules

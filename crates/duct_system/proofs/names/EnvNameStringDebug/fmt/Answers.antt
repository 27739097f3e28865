use Rattle.std.proofs.Common.{rules}
use Rattle.duct_system.proofs.names.EnvNameStringDebug.fmt.Goals as goal

pub returns : goal.returns
returns g c = search rules

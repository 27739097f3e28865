use Rattle.std.proofs.Common.{rules}
use Rattle.duct_system.proofs.spec.CommandSpec.port.Goals as goal

pub returns-in-In : goal.returns-in-In
returns-in-In c = search rules

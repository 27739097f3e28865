use Rattle.std.proofs.Common.{rules}
use Rattle.duct_system.proofs.spec.CommandSpec.stdout.Goals as goal

pub returns : goal.returns
returns c = search rules

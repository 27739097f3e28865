use Rattle.std.proofs.Common.{rules}
use Rattle.duct_system.proofs.spec.CommandSpec.folder.Goals as goal

pub returns-in-Some : goal.returns-in-Some
returns-in-Some c = search rules

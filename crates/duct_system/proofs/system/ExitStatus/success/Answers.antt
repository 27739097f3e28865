use Rattle.std.proofs.Common.{rules}
use Rattle.duct_system.proofs.system.ExitStatus.success.Goals as goal

pub returns-in-Signal : goal.returns-in-Signal
returns-in-Signal c = search rules

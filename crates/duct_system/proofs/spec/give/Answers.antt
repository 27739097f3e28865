use Rattle.std.proofs.Common.{rules}
use Rattle.duct_system.proofs.spec.give.Goals as goal

pub returns-in-Out : goal.returns-in-Out
returns-in-Out c = search rules

use Rattle.std.proofs.Common.{rules}
use Rattle.duct_run.proofs.ending.give_up.Goals as goal

pub returns-clause-given : goal.returns-clause-given
returns-clause-given g c = search rules

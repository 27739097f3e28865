use Rattle.duct_system.proofs.Variables.{name_ties, name_total}
use Rattle.duct_laws.proofs.names.Goals as goal

pub returns-clause-order : goal.returns-clause-order
returns-clause-order c = name_total

pub returns-clause-agree : goal.returns-clause-agree
returns-clause-agree c = name_ties

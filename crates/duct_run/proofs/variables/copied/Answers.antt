-- A clone has the same variables, in order.
use Rattle.duct_run.proofs.Common.{are_ordered}
use Rattle.duct_run.proofs.Changed.{copied_vars}
use Rattle.duct_run.proofs.variables.copied.Goals as goal

pub returns-clause-vars : goal.returns-clause-vars
returns-clause-vars c = copied_vars c.args.vars.now.entries c.in_ok-copy.copy.entries c.in_ok-copy.ensures.cases

pub returns-clause-ordered : goal.returns-clause-ordered
returns-clause-ordered c = are_ordered c.in_ok-copy.copy.entries c.len.ensures.ordered

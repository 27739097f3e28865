use Rattle.std.proofs.Common.{◌∙◌}
use Rattle.duct.proofs.expression.Expression.env.Goals as goal

pub returns-clause-tree : goal.returns-clause-tree
returns-clause-tree g c = rw (c.from.ensures ∙ c.in_ok-name.ensures.ok, c.in_ok-value.ensures.ok) at c.around.ensures.tree

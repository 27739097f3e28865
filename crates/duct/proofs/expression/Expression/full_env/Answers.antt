use Rattle.duct.proofs.expression.Expression.full_env.Goals as goal

pub returns-clause-tree : goal.returns-clause-tree
returns-clause-tree g c = rw c.in_ok-vars.ensures.vars at c.around.ensures.tree

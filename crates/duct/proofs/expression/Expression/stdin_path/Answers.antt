use Rattle.duct.proofs.expression.Expression.stdin_path.Goals as goal

pub returns-clause-tree : goal.returns-clause-tree
returns-clause-tree g c = rw c.in_ok-path.ensures.ok at c.around.ensures.tree

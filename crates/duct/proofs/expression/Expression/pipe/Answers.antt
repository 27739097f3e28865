use Rattle.std.proofs.Common.{refl}
use Rattle.duct.proofs.expression.Expression.pipe.Goals as goal

pub returns-clause-tree : goal.returns-clause-tree
returns-clause-tree g c = rw (c.in_ok-root.ensures.ok, c.in_ok-left.ensures, c.in_ok-right.ensures) refl

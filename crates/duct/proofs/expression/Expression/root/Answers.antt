use Rattle.std.proofs.Common.{ap}
use Rattle.duct_tree.specs.NodeView.{node_view}
use Rattle.duct.proofs.expression.Expression.root.Goals as goal

pub returns : goal.returns
returns g c = ap (λ n. node_view n) c.deref.ensures

use Rattle.std.proofs.Common.{ap}
use Rattle.duct_tree.specs.NodeView.{node_view}
use Rattle.duct.proofs.expression.ExpressionClone.clone.Goals as goal

pub returns : goal.returns
returns g c = record { cases = ap (λ n. node_view n) c.in_ok-try_clone.ensures }

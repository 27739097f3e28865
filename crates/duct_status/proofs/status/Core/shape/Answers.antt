use Rattle.std.proofs.Common.{ap}
use Rattle.duct_status.specs.ShapeView.{shape_view}
use Rattle.duct_status.proofs.status.Core.shape.Goals as goal

pub returns : goal.returns
returns c = ap (λ s. shape_view s) c.deref.ensures

use Rattle.std.proofs.Common.{rules}
use Rattle.duct_base.proofs.pool.PlaceChild.poll.Goals as goal

pub returns : goal.returns
returns g c = search rules

use Rattle.std.proofs.Common.{rules}
use Rattle.duct_base.proofs.pool.Pool.new.Goals as goal

pub returns : goal.returns
returns g c = search rules

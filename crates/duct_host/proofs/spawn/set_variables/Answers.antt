use Rattle.std.proofs.Common.{rules}
use Rattle.duct_host.proofs.spawn.set_variables.Goals as goal

pub set_each-requires : goal.set_each-requires
set_each-requires c = search rules

use Rattle.std.proofs.Common.{rules}
use Rattle.duct_system.proofs.system.Fault.new.Goals as goal

pub returns : goal.returns
returns c = search rules

use Rattle.std.proofs.Common.{rules}
use Rattle.duct_handle.proofs.output.output_or_give_up.Goals as goal

pub returns-in-Err-clause-given : goal.returns-in-Err-clause-given
returns-in-Err-clause-given g c = search rules

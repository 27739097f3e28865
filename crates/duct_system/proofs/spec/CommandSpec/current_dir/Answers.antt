use Rattle.std.proofs.Common.{rules}
use Rattle.duct_system.proofs.spec.CommandSpec.current_dir.Goals as goal

pub returns-in_err-from_str-clause-err : goal.returns-in_err-from_str-clause-err
returns-in_err-from_str-clause-err c = search rules

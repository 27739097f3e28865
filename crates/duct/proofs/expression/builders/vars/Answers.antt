-- One more pair is inserted.
use Rattle.std.proofs.Common.{arith}
use Rattle.std.proofs.lemmas.List.Sums.{fold_more}
use Rattle.std.proofs.lemmas.Grind.{common_steps}
use Rattle.duct_system.proofs.Entries.{insert_var}
use Rattle.duct.proofs.expression.builders.vars.Goals as goal

pub loop-name-preserved : goal.loop-name-preserved
loop-name-preserved c = grind (arith, common_steps, insert_var, fold_more)

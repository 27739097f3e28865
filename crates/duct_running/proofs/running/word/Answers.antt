use Rattle.std.proofs.Common.{refl}
use Rattle.duct_running.proofs.running.word.Goals as goal

pub returns-in-Err : goal.returns-in-Err
returns-in-Err c = rw c.in-Err.is refl

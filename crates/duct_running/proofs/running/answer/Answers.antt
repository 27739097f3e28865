use Rattle.std.proofs.Common.{refl}
use Rattle.duct_running.proofs.running.answer.Goals as goal

pub returns-in-Answer : goal.returns-in-Answer
returns-in-Answer c = rw c.in-Answer.is (refl, refl, refl)

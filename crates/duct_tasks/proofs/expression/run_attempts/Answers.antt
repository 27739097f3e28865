use Rattle.std.proofs.Common.{rules}
use Rattle.duct_tasks.proofs.EachAttempt.{at_values, each_attempt}
use Rattle.duct_tasks.proofs.expression.run_attempts.Goals as goal

pub returns : goal.returns
returns g c = each_attempt _ _ _ _ _ _ _ _ (at_values _ _ _
    (λ first second r one two met. search rules)) c.attempts.ensures

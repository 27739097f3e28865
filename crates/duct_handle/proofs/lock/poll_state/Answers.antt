use Rattle.std.proofs.Common.{Ok, ap}
use Rattle.duct_handle.proofs.lock.poll_state.Goals as goal

pub returns-in_default-clause-runs : goal.returns-in_default-clause-runs
returns-in_default-clause-runs g c = λ is. c.in_ok-answer.ensures.runs (ap (λ o. Ok o) c.in_default.is)

use Rattle.std.proofs.Common.{refl}
use Rattle.duct_guard.proofs.Guarding.{failed, lost_vars}
use Rattle.duct_guard.proofs.requests.environment_noted.Goals as goal

pub returns-in-Err-copies_of-clause-forwards : goal.returns-in-Err-copies_of-clause-forwards
returns-in-Err-copies_of-clause-forwards g c = λ rules held. lost_vars rules held _ _ _ _ c.no_memory.ensures c.in-Ok.ensures.ok

pub returns-in-Err-clause-forwards : goal.returns-in-Err-clause-forwards
returns-in-Err-clause-forwards g c = λ rules held. failed rules held _ _ _ _ refl refl refl c.in-Err.ensures.err

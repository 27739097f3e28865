use Rattle.duct_guard.proofs.Guarding.{below_allowed}
use Rattle.duct_guard.proofs.guard.Guarded.into_parts.Goals as goal

pub returns-clause-allowed : goal.returns-clause-allowed
returns-clause-allowed g c =
    below_allowed _ _ _ _ c.self.inside.keeps.forwards

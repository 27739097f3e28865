use Rattle.std.proofs.Common.{ap, subst}
use Rattle.duct_guard.proofs.Common.{AreAllowed, GuardView}
use Rattle.duct_guard.proofs.Guarding.{below_allowed}
use Rattle.duct_guard.proofs.guard.Guarded.inner.Goals as goal

pub returns-clause-allowed : goal.returns-clause-allowed
returns-clause-allowed g c =
    subst (λ policy. AreAllowed (g.P.Policy.rules policy) (g.S.System.journal_view c.self.inside.inner).entries)
    (ap (λ (v : GuardView _ _). v.policy) c.self.view_is) (below_allowed _ _ _ _ c.self.inside.keeps.forwards)

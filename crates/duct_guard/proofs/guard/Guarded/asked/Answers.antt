use Rattle.std.proofs.Common.{ap, subst}
use Rattle.duct_guard.proofs.Common.{AreDenied, GuardView, AlwaysFits}
use Rattle.duct_guard.proofs.Guarding.{own_denied}
use Rattle.duct_guard.proofs.Holding.{own_fits}
use Rattle.duct_guard.proofs.guard.Guarded.asked.Goals as goal

pub returns-clause-denied : goal.returns-clause-denied
returns-clause-denied g c =
    rw c.entries.ensures (
    subst (λ policy. AreDenied (g.P.Policy.rules policy) c.self.inside.journal.entries)
    (ap (λ (v : GuardView _ _). v.policy) c.self.view_is) (own_denied _ _ _ _ c.self.inside.keeps.forwards)
    )

pub returns-clause-fits : goal.returns-clause-fits
returns-clause-fits g c =
    rw c.entries.ensures (
    subst (λ (v : GuardView _ _). AlwaysFits (g.P.Policy.rules v.policy).limits v.earlier c.self.inside.journal.entries)
    c.self.view_is (own_fits _ _ _ _ c.self.inside.keeps.fits c.self.inside.keeps.forwards)
    )

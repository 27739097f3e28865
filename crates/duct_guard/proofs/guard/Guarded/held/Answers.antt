use Rattle.std.proofs.Common.{ap, subst, sym, ◌≡◌, ◌∙◌}
use Rattle.duct_guard.proofs.Common.{GuardView, Fits, counts_of, held_after}
use Rattle.duct_guard.proofs.Holding.{now_fits}
use Rattle.duct_guard.proofs.guard.Guarded.held.Goals as goal

pub returns-clause-counted : goal.returns-clause-counted
returns-clause-counted g c =
    c.counts.ensures ∙ subst (λ (v : GuardView _ _). counts_of c.self.inside.held ≡ counts_of (held_after v.earlier v.journal.entries))
    c.self.view_is (ap counts_of c.self.inside.keeps.counted)

pub returns-clause-fits : goal.returns-clause-fits
returns-clause-fits g c =
    subst (λ counts. Fits (g.P.Policy.rules c.args.self.now.policy).limits counts) (sym c.counts.ensures)
    (subst (λ (v : GuardView _ _). Fits (g.P.Policy.rules v.policy).limits (counts_of c.self.inside.held))
    c.self.view_is (now_fits _ _ _ _ _ c.self.inside.keeps.fits c.self.inside.keeps.forwards c.self.inside.keeps.counted))

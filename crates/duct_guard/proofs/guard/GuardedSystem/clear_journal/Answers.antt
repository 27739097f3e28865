use Rattle.std.proofs.Common.{ap, arith, refl}
use Rattle.duct_guard.proofs.Common.{JournalView}
use Rattle.duct_guard.proofs.Holding.{begun_again, now_fits}
use Rattle.duct_guard.proofs.Crews.{crew_cleared}
use Rattle.duct_guard.proofs.Guarding.{nothing_noted}
use Rattle.duct_guard.proofs.guard.GuardedSystem.clear_journal.Goals as goal

pub invariant_of-self-inside : goal.invariant_of-self-inside
invariant_of-self-inside g c =
    let kept = c.self.inside.keeps in
    let room = ap (λ (j : JournalView). j.room) c.clear.ensures in
    let none = ap (λ (j : JournalView). j.entries) c.clear.ensures in (
      record {
        within = omega (arith, room, c.clear_journal.ensures.room_grows, kept.within);
        begun = begun_again _ _ _ _ _ _ kept.begun kept.counted (ap (λ (j : JournalView). j.added) c.clear.ensures) none;
        forwards = nothing_noted _ _ _ _ none c.clear_journal.ensures.entries_are;
        counted = rw none refl;
        fits = now_fits _ _ _ _ _ kept.fits kept.forwards kept.counted;
        knows = crew_cleared _ _ _ _ _ _ _ kept.knows kept.counted none;
      },
      tt,
    )

use Rattle.std.proofs.Common.{arith}
use Rattle.duct_guard.proofs.Crews.{crew_few, crew_left}
use Rattle.duct_guard.proofs.guard.Guarded.running.Goals as goal

pub invariant_of-self-inside : goal.invariant_of-self-inside
invariant_of-self-inside g c =
    let kept = c.self.inside.keeps in (
      record {
        within = kept.within;
        begun = kept.begun;
        forwards = kept.forwards;
        counted = kept.counted;
        fits = kept.fits;
        knows = crew_left _ _ _ _ _ _ kept.knows c.forget_ended.ensures;
      },
      tt,
    )

pub returns-clause-few : goal.returns-clause-few
returns-clause-few g c =
    let left = crew_left _ _ _ _ _ _ c.self.inside.keeps.knows c.forget_ended.ensures in
    let few = crew_few g.S.Child.Child.may_answer _ _ (λ m. m.number) _ c.forget_ended.new.crew.items left in
    let long = c.forget_ended.new.crew.ok in
    omega (arith, few, long, c.len.ensures)

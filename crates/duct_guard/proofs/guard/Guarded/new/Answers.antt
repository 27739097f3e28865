use Rattle.std.proofs.Common.{arith, ap, rules}
use Rattle.duct_guard.proofs.Common.{common_steps, JournalView, Held}
use Rattle.duct_guard.proofs.Holding.{begun_first}
use Rattle.duct_guard.proofs.Crews.{no_crew}
use Rattle.duct_guard.proofs.Guarding.{nothing_noted}
use Rattle.duct_guard.proofs.guard.Guarded.new.Goals as goal

pub invariant_of-result : goal.invariant_of-result
invariant_of-result g c =
    let room = ap (λ (j : JournalView). j.room) c.new.ensures in
    let none = ap (λ (j : JournalView). j.entries) c.new.ensures in
    let ends = ap (λ (h : Held). h.ends) c.nothing.ensures in
    let children = ap (λ (h : Held). h.children) c.nothing.ensures in (
      record {
        within = omega (arith, room);
        begun = begun_first _ _ _ none c.nothing.ensures;
        forwards = nothing_noted _ _ _ _ none c.requires;
        counted = search (rules, common_steps);
        fits = record { ends = omega (arith, ends); children = omega (arith, children) };
        knows = rw c.new-2.ensures.items (no_crew g.S.Child.Child.may_answer _ _ _ none children);
      },
      tt,
    )

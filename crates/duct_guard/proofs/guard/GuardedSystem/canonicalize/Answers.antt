use Rattle.std.proofs.Common.{refl, rules, arith}
use Rattle.duct_guard.proofs.Common.{common_steps}
use Rattle.duct_guard.proofs.Below.{none_asked, one_asked}
use Rattle.duct_guard.proofs.Counting.{noted_one, notes}
use Rattle.duct_guard.proofs.guard.GuardedSystem.canonicalize.Goals as goal

pub invariant_of-self-inside-2 : goal.invariant_of-self-inside-2
invariant_of-self-inside-2 g c =
    (noted_one c.self.inside.keeps (c.canonicalize_noted-text.ensures.forwards _) (notes c.in_ok-asked.ensures.ok.1 c.add.ensures c.canonicalize_noted-text.ensures.entry) (omega arith) refl refl, tt)

pub returns-clause-got : goal.returns-clause-got
returns-clause-got g c =
    let grows = (c.canonicalize_noted-text.ensures.forwards c.self.inside.held).adds.next_grows in
    search (rules, common_steps)

pub returns-in_err-asked-clause-below : goal.returns-in_err-asked-clause-below
returns-in_err-asked-clause-below g c = none_asked _ _ _ _ (cc (c.self.view_is, c.in_err-asked.ensures.err.1))

pub returns-clause-below : goal.returns-clause-below
returns-clause-below g c =
    one_asked _ _ _ _ _ _ c.self.view_is (c.canonicalize_noted-text.ensures.forwards _) (notes c.in_ok-asked.ensures.ok.1 c.add.ensures c.canonicalize_noted-text.ensures.entry) refl refl refl

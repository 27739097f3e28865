use Rattle.std.proofs.Common.{refl, rules, arith}
use Rattle.duct_guard.proofs.Common.{common_steps}
use Rattle.duct_guard.proofs.Below.{one_asked}
use Rattle.duct_guard.proofs.Counting.{noted_one, notes}
use Rattle.duct_guard.proofs.guard.GuardedSystem.start_feed.Goals as goal

pub invariant_of-self-inside : goal.invariant_of-self-inside
invariant_of-self-inside g c =
    (noted_one c.self.inside.keeps (c.start_shared_feed-started.ensures.forwards _ _) (notes refl c.add.ensures (cc)) (omega arith) refl (rw c.number-number.ensures at c.spend.ensures), tt)

pub returns-clause-ok : goal.returns-clause-ok
returns-clause-ok g c =
    let grows = (c.start_shared_feed-started.ensures.forwards (g.P.Policy.rules c.self.inside.policy) c.self.inside.held).adds.next_grows in
    search (rules, common_steps)

pub returns-clause-err : goal.returns-clause-err
returns-clause-err g c =
    let grows = (c.start_shared_feed-started.ensures.forwards (g.P.Policy.rules c.self.inside.policy) c.self.inside.held).adds.next_grows in
    search (rules, common_steps)

pub returns-clause-below : goal.returns-clause-below
returns-clause-below g c =
    one_asked _ _ _ _ _ _ c.self.view_is (c.start_shared_feed-started.ensures.forwards _ _) (notes refl c.add.ensures (cc)) refl refl refl

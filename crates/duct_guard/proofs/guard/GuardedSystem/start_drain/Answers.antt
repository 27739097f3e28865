use Rattle.std.proofs.Common.{refl, arith, Result}
use Rattle.duct_guard.proofs.Common.{Drain, Fault}
use Rattle.duct_guard.proofs.Below.{one_asked}
use Rattle.duct_guard.proofs.Counting.{noted_one, notes}
use Rattle.duct_guard.proofs.Guarding.{worker_answered}
use Rattle.duct_guard.proofs.guard.GuardedSystem.start_drain.Goals as goal

pub invariant_of-self-inside : goal.invariant_of-self-inside
invariant_of-self-inside g c =
    let number = g.S.End.Numbered.number_of c.args.end in
    let entry = λ (answer : Result (Unit {0}) Fault). Drain number answer in
    let sent = worker_answered (g.P.Policy.rules c.self.inside.policy) c.self.inside.held entry number _ _ c.start_drain-started.result (λ answer. refl) (λ answer. refl) (λ answer. refl) c.start_drain-started.ensures.ok c.start_drain-started.ensures.err in
    (noted_one c.self.inside.keeps sent (notes refl c.add.ensures (cc)) (omega arith) refl (rw c.number-number.ensures at c.spend.ensures), tt)

pub returns-clause-below : goal.returns-clause-below
returns-clause-below g c =
    let number = g.S.End.Numbered.number_of c.args.end in
    let entry = λ (answer : Result (Unit {0}) Fault). Drain number answer in
    let sent = worker_answered (g.P.Policy.rules c.self.inside.policy) c.self.inside.held entry number _ _ c.start_drain-started.result (λ answer. refl) (λ answer. refl) (λ answer. refl) c.start_drain-started.ensures.ok c.start_drain-started.ensures.err in
    one_asked _ _ _ _ _ _ c.self.view_is sent (notes refl c.add.ensures (cc)) refl refl refl

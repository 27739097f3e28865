use Rattle.std.proofs.Common.{refl, Result}
use Rattle.std.specs.Arc.{arc_value}
use Rattle.duct_guard.proofs.Common.{Feed, Fault}
use Rattle.duct_guard.proofs.Guarding.{one_closed, worker_answered}
use Rattle.duct_guard.proofs.requests.start_shared_feed.Goals as goal

pub returns-in-Ok-clause-forwards : goal.returns-in-Ok-clause-forwards
returns-in-Ok-clause-forwards g c =
    let same = c.in-Ok.ensures in
    let number = g.S.End.Numbered.number_of c.args.end in
    let entry = λ (answer : Result (Unit {0}) Fault). Feed number (arc_value c.in-Ok.shared).items answer in
    λ rules held. rw (← same) (worker_answered rules held entry number _ _ c.start_feed.result (λ answer. refl) (λ answer. refl) (λ answer. refl) c.start_feed.ensures.ok c.start_feed.ensures.err)

pub returns-in-Err-clause-forwards : goal.returns-in-Err-clause-forwards
returns-in-Err-clause-forwards g c = λ rules held.
    one_closed rules held _ _ _ _ _ refl refl c.no_memory.ensures refl refl c.close.ensures

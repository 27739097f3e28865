-- All children are there but those that have ended.
use Rattle.std.proofs.Common.{map, ◌-◌, vec_len}
use Rattle.duct_guard.proofs.Common.{Leaves}
use Rattle.duct_guard.proofs.crew.forget_ended.Given as goal

abbrev pub invariant-loop-place : goal.invariant-loop-place
invariant-loop-place g l =
    ∥ Leaves g.C.Child.may_answer (map (λ m. m.number) l.fn.crew.items) (map (λ m. m.number) l.crew.items) ∥₁

abbrev pub decreases-loop-place : goal.decreases-loop-place
decreases-loop-place g l = vec_len l.crew - l.place

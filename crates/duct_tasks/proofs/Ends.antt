-- How all tasks ended, once none runs.
use Rattle.std.proofs.Common.{◌≡◌, refl, ap, sym, ◌∙◌, arith, Bool, true, false, List, [], ◌∷◌, ◌++◌, length, map}
use Rattle.duct_tasks.proofs.Common.{append-nil, append_assoc, map-append, Task, Ended}
use Rattle.duct_tasks.specs.Turns.{GoesOn}
use Rattle.duct_tasks.specs.declared.finished.Finished.{Finished}
use Rattle.duct_tasks.specs.declared.many.AtFailure.{AtFailure}
use Rattle.duct_tasks.specs.declared.many.AtFailure.TheVariants.{GoOn, Wait, Stop}

-- one more of some ends
pub one_more : {R L : Type 0} (all left rest : List (Task R L)) (ends : List Finished)
    (end : Finished) → left ≡ Ended end ∷ rest
    → all ≡ map (λ e. Ended e) ends ++ left → all ≡ map (λ e. Ended e) (ends ++ end ∷ []) ++ rest
one_more {R} {L} all left rest ends end is so_far =
    let made : List (Task R L) = map (λ e. Ended e) ends in
    so_far ∙ ap (λ (l : List (Task R L)). made ++ l) is ∙ sym
    (append_assoc made (Ended end ∷ []) rest)
    ∙ ap (λ (l : List (Task R L)). l ++ rest) (sym (map-append (λ e. Ended e) ends (end ∷ [])))

-- no more
pub all_made : {X : Type 0} (all made left : List X) → length left ≡ 0 → all ≡ made ++ left → all ≡
    made
all_made all made [] none is = is ∙ append-nil made
all_made all made (x ∷ left) none is = absurd (omega (arith, none))

-- what ends the starts is a failure
pub failure : (at_failure : AtFailure) (failed : Bool) → (GoesOn at_failure failed → ⊥)
    → (at_failure ≡ GoOn → ⊥) × (failed ≡ true)
failure GoOn failed ends = absurd (ends tt)
failure Wait false ends = absurd (ends refl)
failure Wait true ends = (λ is. cc, refl)
failure Stop false ends = absurd (ends refl)
failure Stop true ends = (λ is. cc, refl)

-- no signal was sent while tasks are started
pub not_stopped : (at_failure : AtFailure) (failed stopped : Bool)
    → (stopped ≡ true → (failed ≡ true) × (at_failure ≡ Stop)) → GoesOn at_failure failed → stopped
    ≡ false
not_stopped at_failure failed false stops goes = refl
not_stopped GoOn failed true stops goes = absurd (let is = (stops refl).1 in cc)
not_stopped Wait failed true stops goes = absurd (let is = (stops refl).1 in cc)
not_stopped Stop failed true stops goes = absurd (let is : false ≡ true = sym goes ∙ (stops refl).0
    in cc)

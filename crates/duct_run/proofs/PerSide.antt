-- The capture pipes and workers of a run once one of them is another one.
use Rattle.std.proofs.Common.{◌≡◌, ℕ, [], ◌∷◌, ◌++◌, refl, ap, sym, ◌∙◌, map, None, Some, option_to_list, Option}
use Rattle.duct_run.proofs.Common.{append-nil, map-append, Side, at_side, with_side, PerSide, pipe_view, both, pipes_view}
use Rattle.duct_system.specs.declared.system.Side.TheVariants.{Out, Err}

-- the pipe of one side, by numbers
pub pipe_at : {E : Type 0} (number_of : E → ℕ) (pipes : PerSide (Option (E × E))) (which : Side)
    → at_side (pipes_view number_of pipes) which ≡ pipe_view number_of (at_side pipes which)
pipe_at number_of pipes Out = refl
pipe_at number_of pipes Err = refl

-- the pipes with this one for one side, by numbers
pub pipes_with : {E : Type 0} (number_of : E → ℕ) (pipes : PerSide (Option (E × E))) (which : Side)
    (pipe : Option (E × E))
    → pipes_view number_of (with_side pipes which pipe)
    ≡ with_side (pipes_view number_of pipes) which (pipe_view number_of pipe)
pipes_with number_of pipes Out pipe = refl
pipes_with number_of pipes Err pipe = refl

-- a worker that is started once stdout's has, or else once there is none, is the last one
pub last_worker : {D : Type 0} (number : D → ℕ) (drains : PerSide (Option D)) (which : Side) (job : D)
    → at_side drains which ≡ None → drains.err ≡ None
    → map number (both (with_side drains which (Some job))) ≡ map number (both drains) ++ number job ∷ []
last_worker number drains Out job none last =
    ap (λ o. number job ∷ map number (option_to_list o)) last ∙ sym (λ i. map number (option_to_list (none i) ++ option_to_list (last i)) ++ number job ∷ [])
last_worker number drains Err job none last =
    map-append number (option_to_list drains.out) (job ∷ [])
    ∙ sym (ap (λ o. map number (option_to_list drains.out ++ option_to_list o) ++ number job ∷ []) last ∙ ap (λ l. map number l ++ number job ∷ []) (append-nil (option_to_list drains.out)))

-- A list whose items are changed one after the other, from the first on.
use Rattle.std.specs.List.{AllZip}
use Rattle.std.proofs.Common.{◌≡◌, ◌+◌, ◌≤◌, add-one, ap, sym, subst, arith, ℕ, zero, suc, List, [], ◌∷◌, length}
use Rattle.duct_running.proofs.Common.{ChangedAt}

-- this many items from the first on were changed, and the others are as before
abbrev pub ChangedTo : {T : Type 0} → (T → T → Type 0) → ℕ → List T → List T → Type 0
ChangedTo changes zero befores afters = afters ≡ befores
ChangedTo changes (suc count) [] [] = Unit {0}
ChangedTo changes (suc count) [] (after ∷ afters) = ⊥
ChangedTo changes (suc count) (before ∷ befores) [] = ⊥
ChangedTo changes (suc count) (before ∷ befores) (after ∷ afters) = changes before after × ChangedTo changes count befores afters

module _ {T : Type 0} (changes : T → T → Type 0) where
  first_changed : (befores afters : List T) → ChangedAt changes zero befores afters
      → ChangedTo changes (suc zero) befores afters
  first_changed [] afters changed = absurd changed
  first_changed (before ∷ befores) [] changed = absurd changed
  first_changed (before ∷ befores) (after ∷ afters) changed = (changed.0, changed.1)

  next_changed : (count : ℕ) (befores between afters : List T)
      → ChangedTo changes count befores between → ChangedAt changes count between afters
      → ChangedTo changes (suc count) befores afters
  next_changed zero befores between afters so_far changed = first_changed befores afters (subst (λ (ls : List T). ChangedAt changes zero ls afters) so_far changed)
  next_changed (suc count) [] [] afters so_far changed = absurd changed
  next_changed (suc count) [] (b ∷ between) afters so_far changed = absurd so_far
  next_changed (suc count) (before ∷ befores) [] afters so_far changed = absurd changed
  next_changed (suc count) (before ∷ befores) (b ∷ between) [] so_far changed = absurd changed
  next_changed (suc count) (before ∷ befores) (b ∷ between) (after ∷ afters) so_far changed =
      (subst (λ (l : T). changes before l) (sym changed.0) so_far.0, next_changed count befores between afters so_far.1 changed.1)

  -- one more item was changed
  pub one_more_changed : (count : ℕ) (befores between afters : List T)
      → ChangedTo changes count befores between → ChangedAt changes count between afters
      → ChangedTo changes (count + 1) befores afters
  one_more_changed count befores between afters so_far changed = rw add-one (next_changed count befores between afters so_far changed)

  -- all items were changed
  pub all_changed : (count : ℕ) (befores afters : List T)
      → length befores ≤ count → ChangedTo changes count befores afters
      → AllZip changes befores afters
  all_changed zero [] afters few changed = subst (λ (ls : List T). AllZip changes [] ls) (sym changed) tt
  all_changed zero (before ∷ befores) afters few changed = absurd (omega arith)
  all_changed (suc count) [] [] few changed = tt
  all_changed (suc count) [] (after ∷ afters) few changed = absurd changed
  all_changed (suc count) (before ∷ befores) [] few changed = absurd changed
  all_changed (suc count) (before ∷ befores) (after ∷ afters) few changed = (changed.0, all_changed count befores afters (omega arith) changed.1)

  -- there are as many items as before
  pub length_kept : (at : ℕ) (befores afters : List T)
      → ChangedAt changes at befores afters → length afters ≡ length befores
  length_kept at [] afters changed = absurd changed
  length_kept zero (before ∷ befores) [] changed = absurd changed
  length_kept zero (before ∷ befores) (after ∷ afters) changed = ap (λ (ls : List T). suc (length ls)) changed.1
  length_kept (suc at) (before ∷ befores) [] changed = absurd changed
  length_kept (suc at) (before ∷ befores) (after ∷ afters) changed = ap suc (length_kept at befores afters changed.1)

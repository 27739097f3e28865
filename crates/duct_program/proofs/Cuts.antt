-- Where a list is split first.
use Rattle.std.proofs.Common.{◌≡◌, ℕ, zero, suc, ◌+◌, ◌-◌, ◌<◌, ◌≤◌, Bool, true, false, cond, nat_lt, List, [], ◌∷◌, Some, None, map, length, take, drop, get_or, refl, sym, ap, ◌∙◌, arith}
use Rattle.std.proofs.lemmas.Bool.Decides.{nat_tests}
use Rattle.std.proofs.lemmas.Grind.{common_steps}
use Rattle.std.proofs.lemmas.List.Quantifiers.{position-Some}
use Rattle.std.proofs.lemmas.List.Splits.{slice_split-cons_yes, slice_split-cons_no}
use Rattle.std.proofs.lemmas.List.Sums.{fails_before_first}
use Rattle.std.specs.List.{onto_first, position, position_or_len, slice_split}

module _ {A B : Type 0} (p : B → Bool) (f : A → B) (d : A) where
  at_first : (xs : List A) (at : ℕ) → at < length xs
      → ((k : ℕ) → k < at → p (f (get_or xs k d)) ≡ false)
      → p (f (get_or xs at d)) ≡ true
      → slice_split p (map f xs) ≡ map f (take at xs) ∷ slice_split p (map f (drop (suc at) xs))
  at_first [] at within before here = absurd (omega arith)
  at_first (x ∷ xs) zero within before here = slice_split-cons_yes p (f x) (map f xs) here
  at_first (x ∷ xs) (suc at) within before here =
      slice_split-cons_no p (f x) (map f xs) (before 0 (omega arith))
      ∙ ap (λ (parts : List (List B)). onto_first (f x) parts) (at_first xs at (omega arith) (λ k lt. before (suc k) (omega arith)) here)

  nowhere : (xs : List A) → ((k : ℕ) → k < length xs → p (f (get_or xs k d)) ≡ false)
      → slice_split p (map f xs) ≡ map f xs ∷ []
  nowhere [] none = refl
  nowhere (x ∷ xs) none =
      slice_split-cons_no p (f x) (map f xs) (none 0 (omega arith))
      ∙ ap (λ (parts : List (List B)). onto_first (f x) parts) (nowhere xs (λ k lt. none (suc k) (omega arith)))

none_at_end : (at len : ℕ) → cond (nat_lt at len) (Some at) None ≡ None → len ≤ at
none_at_end at len none = grind (arith, nat_tests)

module _ {A B : Type 0} (p : B → Bool) (f : A → B) where
  -- at the first element that passes the test
  pub cut : (xs : List A) (at : ℕ) → position (λ x. p (f x)) xs ≡ Some at
      → slice_split p (map f xs) ≡ map f (take at xs) ∷ slice_split p (map f (take (length xs - (at + 1)) (drop (at + 1) xs)))
  cut [] at found = absurd cc
  cut (x ∷ xs) at found =
      let s = position-Some (λ y. p (f y)) (x ∷ xs) at x found in
      let rest : take (length (x ∷ xs) - (at + 1)) (drop (at + 1) (x ∷ xs)) ≡ drop (suc at) (x ∷ xs) = grind (arith, common_steps) in
      at_first p f x (x ∷ xs) at s.0 s.2 s.1 ∙ ap (λ (ys : List A). map f (take at (x ∷ xs)) ∷ slice_split p (map f ys)) (sym rest)

  past : (ys : List A) → position (λ y. p (f y)) ys ≡ None
      → length ys ≤ position_or_len (λ y. p (f y)) ys
  past ys none = none_at_end (position_or_len (λ y. p (f y)) ys) (length ys) none

  -- nowhere, if none passes it
  pub uncut : (xs : List A) → position (λ x. p (f x)) xs ≡ None
      → slice_split p (map f xs) ≡ map f xs ∷ []
  uncut [] none = refl
  uncut (x ∷ xs) none =
      nowhere p f x (x ∷ xs) (λ k lt. fails_before_first (λ y. p (f y)) (x ∷ xs) k x (omega (arith, past (x ∷ xs) none)))

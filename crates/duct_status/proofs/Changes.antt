-- A list with its k-th item changed: a write at that index, or no change if k is past the end.
use Rattle.std.proofs.Common.{◌≡◌, ℕ, zero, suc, ◌<◌, ◌≤◌, List, [], ◌∷◌, length, get_or, set, refl, ap, ◌∙◌, arith}
use Rattle.duct_status.specs.Latest.{change_at}

pub changed_set : {T : Type 0} (change : T → T) (k : ℕ) (xs : List T) (x y : T) → k < length xs
    → x ≡ get_or xs k x → y ≡ change x → set xs k y ≡ change_at change k xs
changed_set change k [] x y low is new = absurd (omega arith)
changed_set change zero (w ∷ xs) x y low is new = ap (λ v. v ∷ xs) (new ∙ ap change is)
changed_set change (suc k) (w ∷ xs) x y low is new = ap (λ ys. w ∷ ys) (changed_set change k xs x y (omega arith) is new)

pub changed_past : {T : Type 0} (change : T → T) (k : ℕ) (xs : List T) → length xs ≤ k
    → change_at change k xs ≡ xs
changed_past change k [] past = refl
changed_past change zero (w ∷ xs) past = absurd (omega arith)
changed_past change (suc k) (w ∷ xs) past = ap (λ ys. w ∷ ys) (changed_past change k xs (omega arith))

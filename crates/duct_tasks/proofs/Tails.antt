-- What follows the first newline of some bytes.
use Rattle.std.proofs.Common.{◌≡◌, ◌≤◌, ◌-◌, ◌⊎◌, inl, inr, ℕ, Bool, true, false, List, [], ◌∷◌, ◌++◌, ◌==◌, if◌then◌else◌, length, take, drop, refl, sym, ap, ◌∙◌, arith, append_assoc}
use Rattle.std.proofs.lemmas.Bool.{eqb-true}
use Rattle.std.proofs.lemmas.List.{take-append-drop}
use Rattle.std.proofs.Math.Nat.{le_refl}
use Rattle.std.specs.Io.BufRead.{drop_through}
use Rattle.duct_tasks.specs.FailedText.{BeginsLine}

shorter_if : (hit : Bool) (xs ys : List ℕ) → length ys ≤ length xs
    → length (if hit then xs else ys) ≤ length xs
shorter_if true xs ys shorter = le_refl (length xs)
shorter_if false xs ys shorter = shorter

-- it is shorter than they are, unless they are empty
pub after-shorter : (bytes : List ℕ) → length (drop_through 10 bytes) ≤ length bytes - 1
after-shorter [] = le_refl 0
after-shorter (x ∷ xs) =
    let rest = after-shorter xs in
    let shorter : length (drop_through 10 (x ∷ xs)) ≤ length xs =
    shorter_if (x == 10) xs (drop_through 10 xs) (omega (arith, rest)) in
    omega (arith, shorter)

-- it is empty, or a newline is before it
abbrev IsAfter : List ℕ → List ℕ → Type 0
IsAfter bytes rest = (rest ≡ []) ⊎ ((before : List ℕ) × (bytes ≡ before ++ 10 ∷ rest))

after_if : (x : ℕ) (xs ys : List ℕ) (hit : Bool) → (hit ≡ true → x ≡ 10) → IsAfter xs ys
    → IsAfter (x ∷ xs) (if hit then xs else ys)
after_if x xs ys true is later = inr ([], ap (λ y. y ∷ xs) (is refl))
after_if x xs ys false is (inl none) = inl none
after_if x xs ys false is (inr (before, split)) = inr (x ∷ before, ap (λ l. x ∷ l) split)

after : (bytes : List ℕ) → IsAfter bytes (drop_through 10 bytes)
after [] = inl refl
after (x ∷ xs) = after_if x xs (drop_through 10 xs) (x == 10) (eqb-true x 10) (after xs)

within : (bytes rest tail : List ℕ) (k : ℕ) → rest ≡ drop k bytes → IsAfter rest tail
    → BeginsLine bytes tail
within bytes rest tail k is (inl none) = inl none
within bytes rest tail k is (inr (before, split)) =
    inr (inr (
      take k bytes ++ before,
      sym (take-append-drop k bytes)
          ∙ ap (λ l. take k bytes ++ l) (sym is ∙ split) ∙ sym (append_assoc (take k bytes) before (10 ∷ tail)),
    ))

-- the same of what follows the first newline from a place on
pub after_place : (bytes : List ℕ) (k : ℕ) → BeginsLine bytes (drop_through 10 (drop k bytes))
after_place bytes k = within bytes (drop k bytes) (drop_through 10 (drop k bytes)) k refl (after (drop k bytes))

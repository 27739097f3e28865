-- A test whether a list begins with another one, and a test of what is seen of a list.
use Rattle.duct_guard.proofs.Common.{list_any, starts_with, take-append-drop}
use Rattle.std.proofs.Common.{◌≡◌, ap, refl, sym, ◌∙◌, ℕ, Bool, true, ◌||◌, List, [], ◌∷◌, ◌++◌, length, map, take, drop, bytes_eq}
use Rattle.std.proofs.Math.Seq.{take-append_seam}
use Rattle.std.specs.Bool.{one_answer}
use lib.Pointwise.{pointwise_decides, bytes_decides}

-- a test that is true exactly where a list begins with another one computes whether it does
pub prefix_test : (xs ys : List (List ℕ)) (b : Bool)
    → (b ≡ true → (rest : List (List ℕ)) × (xs ≡ ys ++ rest))
    → (((rest : List (List ℕ)) × (xs ≡ ys ++ rest)) → b ≡ true)
    → b ≡ starts_with bytes_eq xs ys
prefix_test xs ys b only exactly =
    let P : Type 0 = (rest : List (List ℕ)) × (xs ≡ ys ++ rest) in
    let front : List (List ℕ) = take (length ys) xs in
    let decides = pointwise_decides bytes_decides ys front in
    one_answer {P = P} b (starts_with bytes_eq xs ys)
    (only, exactly) (
      λ e. (drop (length ys) xs, sym (take-append-drop (length ys) xs) ∙ ap (λ l. l ++ drop (length ys) xs) (sym (decides.0 e))),
      λ p. decides.1 (sym (ap (λ l. take (length ys) l) p.1 ∙ take-append_seam ys p.0)),
    )

pub any_seen : {X Y : Type 0} (test : X → Bool) (view : Y → X) (items : List Y)
    → list_any (λ item. test (view item)) items ≡ list_any test (map view items)
any_seen test view [] = refl
any_seen test view (item ∷ items) =
    ap (λ found. test (view item) || found) (any_seen test view items)

-- The order of two texts at the end of the shorter one.
use Rattle.std.specs.Char.{to_ascii_lowercase}
use Rattle.std.specs.Cmp.{nat_cmp_is}
use Rattle.std.specs.Cmp.Lexicographic.{slice_cmp}
use Rattle.std.specs.Ordering.{nat_cmp, MatchOrdering}
use Rattle.std.specs.declared.cmp.Ordering.{Ordering}
use Rattle.std.specs.declared.cmp.Ordering.TheVariants.{Less, Equal, Greater}
use Rattle.std.proofs.Common.{◌≡◌, refl, subst, sym, ap, arith, ℕ, suc, List, [], ◌∷◌, ◌<◌, length, map, min, drop}
use native.Mathlib.Numerals.{unary_clauses}

-- the order of what is left of two texts from this place on
abbrev left_cmp : ℕ → List ℕ → List ℕ → Ordering
left_cmp n xs ys = slice_cmp nat_cmp (map to_ascii_lowercase (drop n xs)) (map to_ascii_lowercase (drop n ys))

-- this order is that of the two lengths
abbrev ByLength : Ordering → ℕ → ℕ → Type 0
ByLength order n m = MatchOrdering order (n < m) (n ≡ m) (m < n)

more : (order : Ordering) (n m : ℕ) → ByLength order n m → ByLength order (suc n) (suc m)
more Less n m below = omega arith
more Equal n m same = ap (λ (k : ℕ). suc k) same
more Greater n m above = omega arith

at_min : (xs ys : List ℕ) → ByLength (left_cmp (min (length xs) (length ys)) xs ys) (length xs)
    (length ys)
at_min [] [] = refl
at_min [] (y ∷ ys) = simp unary_clauses (omega arith)
at_min (x ∷ xs) [] = simp unary_clauses (omega arith)
at_min (x ∷ xs) (y ∷ ys) = simp unary_clauses (more (left_cmp (min (length xs) (length ys)) xs ys) (length xs) (length ys) (at_min xs ys))

-- at the end of the shorter text the lengths decide
pub finished : (xs ys : List ℕ) (n : ℕ) → n ≡ min (length xs) (length ys)
    → nat_cmp (length xs) (length ys) ≡ left_cmp n xs ys
finished xs ys n is =
    subst (λ m. nat_cmp (length xs) (length ys) ≡ left_cmp m xs ys) (sym is) (sym (nat_cmp_is _ _ _ (at_min xs ys)))

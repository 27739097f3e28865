-- Counts of numbers in lists.
use Rattle.std.proofs.Common.{◌≡◌, ◌≢◌, ℕ, ◌+◌, ◌<◌, ◌≤◌, List, [], ◌∷◌, ◌++◌, refl, ap, arith, inl, inr, ◌==◌, true, false, reverse}
use Rattle.std.proofs.lemmas.Bool.{cases_lt}
use Rattle.std.proofs.lemmas.Grind.{common_steps}
use Rattle.std.proofs.lemmas.List.{reverse-append}
use Rattle.std.proofs.lemmas.Bool.Decides.{nat_tests}
use Rattle.duct_system.specs.Ledger.{count_of}

-- two counts add up to at most 1, if each is at most 1 and one of them is 0
pub once_of : (next n a b : ℕ) → a ≤ 1 → b ≤ 1 → (next ≤ n → a ≡ 0) → (n < next → b ≡ 0) → a + b ≤ 1
once_of next n a b first second old new = elim (cases_lt n next) [ inl lt ↦ omega (arith, new lt) | inr le ↦ omega (arith, old le) ]

pub count-append : (n : ℕ) (xs ys : List ℕ) → count_of n (xs ++ ys) ≡ count_of n xs + count_of n ys
count-append n xs ys = grind (arith, common_steps)

pub count_same : (n : ℕ) → count_of n (n ∷ []) ≡ 1
count_same n = grind (arith, nat_tests)

pub count_other : (n m : ℕ) → n ≢ m → count_of n (m ∷ []) ≡ 0
count_other n m other = grind (arith, nat_tests)

pub count_le : (n m : ℕ) → count_of n (m ∷ []) ≤ 1
count_le n m = grind (arith, nat_tests)

pub count-cons : (n m : ℕ) (xs : List ℕ) → count_of n (m ∷ xs) ≡ count_of n (m ∷ []) + count_of n xs
count-cons n m xs = count-append n (m ∷ []) xs

pub count-reverse : (m : ℕ) (xs : List ℕ) → count_of m (reverse xs) ≡ count_of m xs
count-reverse m [] = refl
count-reverse m (x ∷ xs) =
    omega (arith, ap (λ l. count_of m l) (reverse-append (x ∷ []) xs), count-append m (reverse xs) (x ∷ []), count-cons m x xs, count-reverse m xs)

-- a number that is not in a list differs from the list's only element
pub other_than : (n m : ℕ) → count_of n (m ∷ []) ≡ 0 → (n == m) ≡ false
other_than n m none = grind (arith, nat_tests)

pub is_itself : (n : ℕ) → (n == n) ≡ true
is_itself n = grind (arith, nat_tests)

-- the numbers that a request got: none, one or two

-- If the numbers of two lists balance, all numbers balance.
use Rattle.std.proofs.Common.{◌≡◌, refl, sym, ◌∙◌, subst, ℕ, ◌==◌, ◌⊎◌, inl, inr, Bool, true, false, List, [], ◌∷◌, arith}
use Rattle.std.proofs.lemmas.Bool.{eqb-true}
use Rattle.duct_system.specs.Ledger.{count_of}
use Rattle.duct_script.specs.Checker.{Balances, BalancesAt, AllBalance}

-- one more number at the start of a list
absent_or_balances-cons : (got spent : List ℕ) (number first : ℕ) (rest : List ℕ) (same : Bool)
    → (first == number) ≡ same →
    (count_of number rest ≡ 0) ⊎ (AllBalance got spent rest → BalancesAt got spent number) →
    (count_of number (first ∷ rest) ≡ 0) ⊎ (AllBalance got spent (first ∷ rest) → BalancesAt got spent number)
absent_or_balances-cons got spent number first rest true is before = inr (λ all. subst (BalancesAt got spent) (eqb-true first number is) all.0)
absent_or_balances-cons got spent number first rest false is (inl absent) = inl (rw is absent)
absent_or_balances-cons got spent number first rest false is (inr held) = inr (λ all. held all.1)

-- a number does not occur in a list, or it balances if all numbers of the list do
pub absent_or_balances : (got spent : List ℕ) (number : ℕ) (numbers : List ℕ) →
    (count_of number numbers ≡ 0) ⊎ (AllBalance got spent numbers → BalancesAt got spent number)
absent_or_balances got spent number [] = inl refl
absent_or_balances got spent number (first ∷ rest) =
    absent_or_balances-cons got spent number first rest (first == number) refl (absent_or_balances got spent number rest)

-- if the numbers of both lists balance, each number does
pub balances_everywhere : (got spent : List ℕ) → AllBalance got spent got
    → AllBalance got spent spent → Balances got spent
balances_everywhere got spent in_got in_spent number =
    elim (absent_or_balances got spent number got) [
      | inr held ↦ held in_got
      | inl no_got ↦ elim (absent_or_balances got spent number spent) [
        | inr held ↦ held in_spent
        | inl no_spent ↦ (no_spent ∙ sym no_got, omega (arith, no_got))
      ]
    ]

-- and if each number does, those of a list do
pub balances_in : (got spent numbers : List ℕ) → Balances got spent → AllBalance got spent numbers
balances_in got spent [] all = tt
balances_in got spent (number ∷ numbers) all = (all number, balances_in got spent numbers all)

-- What the checker of journals returns: whether the ends balance, and where an end comes from.
use Rattle.std.specs.Prelude.{ℕ, ◌≤◌, List, [], ◌∷◌, ◌≡◌}
use Rattle.duct_system.specs.Ledger.{count_of}
use Rattle.duct_system.specs.Origin.{Origin}
use Rattle.duct_system.specs.Origin as origin
use Rattle.duct_script.specs.declared.checker.Source.{Source}
use Rattle.duct_script.specs.declared.checker.Source.TheVariants.{Opened, ParentOf, Lent}

-- a number occurs equally often in both lists, and at most once
abbrev pub BalancesAt : List ℕ → List ℕ → ℕ → Type 0
BalancesAt got spent number =
    (count_of number spent ≡ count_of number got) × (count_of number got ≤ 1)

-- each of these numbers balances
abbrev pub AllBalance : List ℕ → List ℕ → List ℕ → Type 0
AllBalance got spent [] = Unit {0}
AllBalance got spent (number ∷ numbers) = BalancesAt got spent number × AllBalance got spent numbers

-- each number balances
abbrev pub Balances : List ℕ → List ℕ → Type 0
Balances got spent = (number : ℕ) → BalancesAt got spent number

-- the origin that a result of the checker means
abbrev pub origin_of : Source → Origin
origin_of (Opened number) = origin.Opened number
origin_of (ParentOf side) = origin.ParentOf side
origin_of (Lent number) = origin.Lent number

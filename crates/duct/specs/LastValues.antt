-- The variables that a list of names and values sets: in order of name, each name with its first
-- spelling and its last value.
use Rattle.std.specs.Prelude.{[], fold, ℕ, List, map}
use Rattle.duct_system.specs.SpecView.{Vars, with_var}
use Rattle.std.specs.Borrow.{Bor}

-- the pairs are inserted one after the other, and a value replaces the earlier value of its name
abbrev pub last_values : Vars → Vars
last_values pairs = fold (λ vars pair. with_var pair.0 pair.1 vars) [] pairs

-- the texts of some names and their values
abbrev pub pairs_of : List (Bor (List ℕ) × Bor (List ℕ)) → Vars
pairs_of pairs = map (λ pair. (pair.0.now, pair.1.now)) pairs

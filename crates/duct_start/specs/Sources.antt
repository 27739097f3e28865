-- Where the ends come from that a spawn is given, even if the system gives out the number of a
-- caller's end again.
use Rattle.std.specs.Prelude.{ℕ, List, [], ◌∷◌, ◌≡◌, ◌⊎◌, Ok, reverse}
use Rattle.duct_system.specs.EntryView.{EntryView, Duplicate}
use Rattle.duct_system.specs.Origin.{Origin, Opened, ParentOf, Lent, origin}
use Rattle.duct_system.specs.declared.system.Stdio.{Stdio}
use Rattle.duct_system.specs.declared.system.Stdio.TheVariants.{Inherit, Null, End}

-- the end of this number is a duplicate of the lent end, directly or through earlier duplicates;
-- the entries are listed from the last to the first
abbrev pub IsDuplicateBefore : List EntryView → ℕ → ℕ → Type 0
IsDuplicateBefore [] lent number = ⊥
IsDuplicateBefore (Duplicate other (Ok end) ∷ entries) lent number =
    ((end ≡ number) × ((other ≡ lent) ⊎ IsDuplicateBefore entries lent other))
    ⊎ IsDuplicateBefore entries lent number
IsDuplicateBefore (entry ∷ entries) lent number = IsDuplicateBefore entries lent number

-- the end of this number is a duplicate of the lent end, directly or through earlier duplicates
abbrev pub IsDuplicate : List EntryView → ℕ → ℕ → Type 0
IsDuplicate entries lent number = IsDuplicateBefore (reverse entries) lent number

-- the end of a number comes from this origin; for a caller's end, it is a duplicate of that end's
-- number
abbrev pub ComesFrom : List EntryView → ℕ → Origin → Type 0
ComesFrom entries number (Opened opened) = origin entries number ≡ Opened opened
ComesFrom entries number (ParentOf side) = origin entries number ≡ ParentOf side
ComesFrom entries number (Lent lent) = IsDuplicate entries lent number

-- a stream comes from this origin, in the same sense
abbrev pub IsGivenFrom : List EntryView → Stdio ℕ → Stdio Origin → Type 0
IsGivenFrom entries Inherit Inherit = Unit {0}
IsGivenFrom entries Null Null = Unit {0}
IsGivenFrom entries (End number) (End source) = ComesFrom entries number source
IsGivenFrom entries stream other = ⊥

-- the lists have the same length, and the relation holds for each pair of elements at the same
-- index
abbrev pub Pairwise : {A B : Type 0} → (A → B → Type 0) → List A → List B → Type 0
Pairwise R [] [] = Unit {0}
Pairwise R [] (y ∷ ys) = ⊥
Pairwise R (x ∷ xs) [] = ⊥
Pairwise R (x ∷ xs) (y ∷ ys) = R x y × Pairwise R xs ys

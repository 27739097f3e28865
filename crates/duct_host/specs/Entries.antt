-- What an entry of the parent's environment means: a variable's name and value, separated by a `=`.
use Rattle.std.specs.Prelude.{◌≡◌, ℕ, List, [], ◌∷◌, ◌++◌, Some, None, ◌==◌, if◌then◌else◌, IsUtf8, option_to_list, option_map, Option}
use Rattle.duct_system.specs.SpecView.{Vars}

-- a name with some bytes before it, and its value
abbrev pub with_front : List ℕ → List ℕ × List ℕ → List ℕ × List ℕ
with_front front pair = (front ++ pair.0, pair.1)

-- what is before and after the first `=` of a text, or none if it has no `=`
abbrev pub parts_at_sign : List ℕ → Option (List ℕ × List ℕ)
parts_at_sign [] = None
parts_at_sign (byte ∷ rest) = if byte == 61 then Some ([], rest)
    else option_map (with_front (byte ∷ [])) (parts_at_sign rest)

-- the name and the value of an entry; its first byte belongs to the name, even if it is a `=`
abbrev pub variable_of : List ℕ → Option (List ℕ × List ℕ)
variable_of [] = None
variable_of (byte ∷ rest) = option_map (with_front (byte ∷ [])) (parts_at_sign rest)

-- the variable of an entry is added after the others; none if the entry is not UTF-8, or has no
-- name or no `=`
abbrev pub AddsVariable : List ℕ → Vars → Vars → Type 0
AddsVariable entry old new =
    (IsUtf8 entry → new ≡ old ++ option_to_list (variable_of entry))
    × (¬ (IsUtf8 entry) → new ≡ old)

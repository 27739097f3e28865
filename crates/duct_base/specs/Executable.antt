-- The name by which a program is started, and when its canonical path is requested first.
use Rattle.std.specs.Prelude.{ℕ, List, [], ◌∷◌, Bool, false, ◌==◌, if◌then◌else◌, ◌&&◌, not}
use Rattle.std.specs.List.{list_any}

-- the code of `/`
abbrev pub slash : ℕ
slash = 47

-- whether a text begins with `/`
abbrev pub begins_with_slash : List ℕ → Bool
begins_with_slash [] = false
begins_with_slash (b ∷ bs) = b == slash

-- a path as a program: unchanged if it begins with `/`, else with the prefix `./`
abbrev pub dotted : List ℕ → List ℕ
dotted path = if begins_with_slash path then path else 46 ∷ slash ∷ path

-- whether the canonical path of a program is requested before it is started: a folder is set, and
-- the program has a `/`, but doesn't begin with it
abbrev pub asks_canonical : List ℕ → Bool → Bool
asks_canonical program folder_is_set =
    folder_is_set && list_any (λ b. b == slash) program && not (begins_with_slash program)

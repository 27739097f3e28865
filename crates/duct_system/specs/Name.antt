-- When two names of variables are the same, and how names are ordered: without regard to the case
-- of ASCII letters.
use Rattle.std.specs.Prelude.{ℕ, List, [], ◌∷◌, ◌++◌, Bool, map, nat_eq}
use Rattle.std.specs.Char.{to_ascii_lowercase}
use Rattle.std.specs.Cmp.Lexicographic.{pointwise, slice_cmp}
use Rattle.std.specs.Ordering.{nat_cmp}
use Rattle.std.specs.declared.cmp.Ordering.{Ordering}

-- the form in which names are compared, ordered and hashed: with A to Z taken as a to z
abbrev pub name_form : List ℕ → List ℕ
name_form name = map to_ascii_lowercase name

-- whether two names are the same: their forms have the same bytes
abbrev pub is_same_name : List ℕ → List ℕ → Bool
is_same_name one other = pointwise nat_eq (name_form one) (name_form other)

-- how two names are ordered: by the bytes of their forms
abbrev pub name_cmp : List ℕ → List ℕ → Ordering
name_cmp one other = slice_cmp nat_cmp (name_form one) (name_form other)

-- what a name writes to a hasher: each byte of its form, and then 255, which no text has
abbrev pub name_hash_input : List ℕ → List (List ℕ)
name_hash_input name = map (λ byte. byte ∷ []) (name_form name) ++ (255 ∷ []) ∷ []

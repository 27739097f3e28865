-- Bytes with `***` in place of secrets, and what a writer that does so passes on.
use Rattle.std.specs.Prelude.{◌≡◌, ℕ, zero, suc, List, [], ◌∷◌, ◌++◌, Bool, true, ◌&&◌, if◌then◌else◌, codes, length, max, nat_eq, nat_lt, Option}
use Rattle.std.specs.Io.KnownBytes.{Appends}
use Rattle.std.specs.List.{list_any, starts_with}
use Rattle.duct_base.specs.Transfer.{AppendsFront}

-- the length of the longest secret that bytes begin with, or 0
abbrev pub longest : List (List ℕ) → List ℕ → ℕ
longest [] bytes = 0
longest (secret ∷ secrets) bytes =
    max (if starts_with nat_eq bytes secret then length secret else 0) (longest secrets bytes)

-- bytes with `***` in place of each secret, behind so many bytes that are left out
abbrev pub hidden_behind : List (List ℕ) → ℕ → List ℕ → List ℕ
hidden_behind secrets left_out [] = []
hidden_behind secrets (suc left_out) (b ∷ bytes) = hidden_behind secrets left_out bytes
hidden_behind secrets zero (b ∷ bytes) =
    elim (longest secrets (b ∷ bytes)) [
      | zero ↦ b ∷ hidden_behind secrets zero bytes
      | suc others ↦ codes "***" ++ hidden_behind secrets others bytes
    ]

-- bytes with `***` in place of each secret, of which the first place counts, and there the longest
abbrev pub hidden : List (List ℕ) → List ℕ → List ℕ
hidden secrets bytes = hidden_behind secrets 0 bytes

-- whether bytes are the beginning of a secret, and not all of it
abbrev pub is_begun : List (List ℕ) → List ℕ → Bool
is_begun secrets bytes =
    list_any (λ secret. nat_lt (length bytes) (length secret) && starts_with nat_eq secret bytes)
    secrets

-- nothing is held back but what may be the beginning of a secret
abbrev pub IsHeld : List (List ℕ) → List ℕ → Type 0
IsHeld secrets [] = Unit {0}
IsHeld secrets held = is_begun secrets held ≡ true

-- whatever follows, what is written with the secrets hidden is that of what was held back and then
-- these bytes, less that of what is held back now
abbrev pub Hides : List (List ℕ) → List ℕ → List ℕ → List ℕ → List ℕ → Type 0
Hides secrets held bytes written left =
    (others : List ℕ)
    → hidden secrets (held ++ (bytes ++ others)) ≡ written ++ hidden secrets (left ++ others)

-- a writer got these bytes with the secrets hidden, behind what was held back, and less what is now
abbrev pub Passes : List (List ℕ) → Option (List ℕ) → Option (List ℕ) → List ℕ → List ℕ → List ℕ
    → Type 0
Passes secrets old new held bytes left =
    (written : List ℕ) × Appends old new written × Hides secrets held bytes written left
    × IsHeld secrets left

-- whatever follows, a writer got a front of what was held back and then these bytes, with the
-- secrets hidden
abbrev pub PassesFront : List (List ℕ) → Option (List ℕ) → Option (List ℕ) → List ℕ → List ℕ
    → Type 0
PassesFront secrets old new held bytes =
    (others : List ℕ) → AppendsFront old new (hidden secrets (held ++ (bytes ++ others)))

-- What is left of a list, by its last byte.
use Rattle.std.proofs.Common.{◌≡◌, refl, ap, ◌∙◌, ℕ, true, false, if◌then◌else◌, List, [], ◌∷◌, ◌++◌, length, take}
use Rattle.duct_handle.proofs.Common.{before, is_line_end, trimmed}

-- a line end at the end is dropped
pub trimmed_end : (front : List ℕ) (last : ℕ) → is_line_end last ≡ true
    → trimmed (front ++ last ∷ []) ≡ trimmed front
trimmed_end [] last ends = ap (λ b. if b then [] else (last ∷ [])) ends
trimmed_end (byte ∷ front) last ends = ap (before byte) (trimmed_end front last ends)

before_more : (byte : ℕ) (front : List ℕ) (last : ℕ)
    → before byte (front ++ last ∷ []) ≡ byte ∷ front ++ last ∷ []
before_more byte [] last = refl
before_more byte (next ∷ front) last = refl

-- if the last byte is no line end, everything is left
pub trimmed_whole : (front : List ℕ) (last : ℕ) → is_line_end last ≡ false
    → trimmed (front ++ last ∷ []) ≡ front ++ last ∷ []
trimmed_whole [] last other = ap (λ b. if b then [] else (last ∷ [])) other
trimmed_whole (byte ∷ front) last other = ap (before byte) (trimmed_whole front last other) ∙ before_more byte front last

-- the prefix of a list, by its length
pub take_front : (front tail : List ℕ) → take (length front) (front ++ tail) ≡ front
take_front [] tail = refl
take_front (byte ∷ front) tail = ap (λ bytes. byte ∷ bytes) (take_front front tail)

-- a byte moved from the end of the prefix to the tail
pub one_more : (front tail : List ℕ) (last : ℕ)
    → (front ++ last ∷ []) ++ tail ≡ front ++ last ∷ tail
one_more [] tail last = refl
one_more (byte ∷ front) tail last = ap (λ bytes. byte ∷ bytes) (one_more front tail last)

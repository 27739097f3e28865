-- What is written to in an `Arc` of words: the words, or clones of them where they are shared.
use Rattle.std.specs.List.{AllZip}
use Rattle.std.proofs.Common.{◌≡◌, ◌⊎◌, inl, inr, refl, ap, List, [], ◌∷◌, map, string_bytes, vec_len, String, Vec}

-- a clone has the same bytes
abbrev IsCloneOf : {Z : Type 0} → String Z → String Z → Type 0
IsCloneOf word clone = string_bytes clone ≡ string_bytes word

-- clones of words are the same texts
clones_same : {Z : Type 0} (words clones : List (String Z)) → AllZip IsCloneOf words clones
    → map string_bytes clones ≡ map string_bytes words
clones_same [] [] all = refl
clones_same [] (clone ∷ clones) all = absurd all
clones_same (word ∷ words) [] all = absurd all
clones_same (word ∷ words) (clone ∷ clones) all = λ i. all.0 i ∷ clones_same words clones all.1 i

-- what is written to is the same texts
pub texts_kept : {Y Z : Type 0} (words kept : Vec (String Y) Z)
    → (kept ≡ words) ⊎ AllZip IsCloneOf words.items kept.items × (vec_len kept ≡ vec_len words)
    → map string_bytes kept.items ≡ map string_bytes words.items
texts_kept words kept (inl same) = ap (λ (v : Vec _ _). map string_bytes v.items) same
texts_kept words kept (inr clone) = clones_same words.items kept.items clone.0

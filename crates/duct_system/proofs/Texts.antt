-- Lists of texts and of pairs of texts, compared element by element.
use Rattle.std.proofs.Common.{◌≡◌, refl, ap, sym, ◌∙◌, Bool, true, false, ◌&&◌, List, ℕ, map, nat_eq, Bor, Decides}
use Rattle.std.specs.Cmp.Lexicographic.{pointwise}
use Rattle.std.specs.Cmp.Derive.Mapped.{pointwise-map}
use Rattle.std.proofs.lemmas.Bool.{false≢true}
use Rattle.std.proofs.lemmas.Slice.Eq.{slice_eq-Decides, bytes_eq-Decides}
use Rattle.duct_system.specs.SpecView.{pair_seen}

-- whether two texts are equal
abbrev pub same_text : List ℕ → List ℕ → Bool
same_text = pointwise nat_eq

-- elements that are mapped to texts: comparing these texts decides whether the mapped lists are
-- equal
pub texts_decide : {A : Type 0} (f : A → List ℕ) (xs ys : List A) (result : Bool)
    → result ≡ pointwise (λ x y. same_text (f x) (f y)) xs ys → Decides result (map f xs ≡ map f ys)
texts_decide f xs ys result is = slice_eq-Decides bytes_eq-Decides (map f xs) (map f ys) result (is ∙ sym (pointwise-map f same_text xs ys))

-- whether two pairs of texts are equal
abbrev same_pair : List ℕ × List ℕ → List ℕ × List ℕ → Bool
same_pair one other = same_text one.0 other.0 && same_text one.1 other.1

-- two pairs are compared by a test of each part
parts_decide : (one other : List ℕ × List ℕ) (first second : Bool)
    → Decides first (one.0 ≡ other.0) → Decides second (one.1 ≡ other.1)
    → Decides (first && second) (one ≡ other)
parts_decide one other true true is also = (λ yes. λ i. (is.0 refl i, also.0 refl i), λ same. refl)
parts_decide one other true false is also = (λ yes. absurd (false≢true yes), λ same. also.1 (ap (λ pair. pair.1) same))
parts_decide one other false second is also = (λ yes. absurd (false≢true yes), λ same. is.1 (ap (λ pair. pair.0) same))

pair_decides : (one other : List ℕ × List ℕ) → Decides (same_pair one other) (one ≡ other)
pair_decides one other = parts_decide one other _ _ (bytes_eq-Decides one.0 other.0) (bytes_eq-Decides one.1 other.1)

-- pairs of borrowed texts
pub pairs_decide : (xs ys : List (Bor (List ℕ) × Bor (List ℕ))) (result : Bool) →
    result ≡ pointwise (λ x y. same_pair (pair_seen x) (pair_seen y)) xs ys → Decides result (map pair_seen xs ≡ map pair_seen ys)
pairs_decide xs ys result is = slice_eq-Decides pair_decides (map pair_seen xs) (map pair_seen ys) result (is ∙ sym (pointwise-map pair_seen same_pair xs ys))

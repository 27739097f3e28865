-- Inserting paths into a map and looking them up, by their texts.
use Rattle.std.specs.BTreeMap.{insert_entry, is_at}
use Rattle.std.specs.Map.{lookup}
use Rattle.std.specs.Cmp.Lexicographic.{slice_cmp}
use Rattle.std.specs.Ordering.{nat_cmp, match_ordering, is_eq}
use Rattle.std.specs.declared.cmp.Ordering.TheVariants.{Less, Equal, Greater}
use Rattle.std.specs.String.{string_cmp}
use Rattle.std.proofs.Common.{◌≡◌, ap, refl, sym, ◌∙◌, ℕ, List, [], ◌∷◌, map, string_bytes, Some, true, false, cond, option_map, Option, String}
use Rattle.duct_system.specs.SpecView.{pair_text}
use Rattle.duct_script.specs.Settings.{Paths, canonical_of}

-- the texts of a map after an insertion are the map's texts with the text of the new entry inserted
pub insert_texts : {Z : Type 0} (es : List (String Z × String Z)) (k v : String Z)
    → map pair_text (insert_entry string_cmp es k v)
    ≡ insert_entry (slice_cmp nat_cmp) (map pair_text es) (string_bytes k) (string_bytes v)
insert_texts [] k v = refl
insert_texts (e ∷ es) k v =
    elim (slice_cmp nat_cmp (string_bytes k) (string_bytes e.0)) as (λ o.
    map pair_text (match_ordering o ((k, v) ∷ e ∷ es) ((e.0, v) ∷ es) (e ∷ insert_entry string_cmp es k v))
    ≡ match_ordering o ((string_bytes k, string_bytes v) ∷ pair_text e ∷ map pair_text es) ((string_bytes e.0, string_bytes v) ∷ map pair_text es) (pair_text e ∷ insert_entry (slice_cmp nat_cmp) (map pair_text es) (string_bytes k) (string_bytes v)))
    [ Less ↦ refl | Equal ↦ refl | Greater ↦ ap (λ r. pair_text e ∷ r) (insert_texts es k v) ]

-- the canonical path of a path among the texts is the text of the map's value for that path
pub canonical_of-map : {Z : Type 0} (name : List ℕ) (es : List (String Z × String Z)) →
    canonical_of name (map pair_text es) ≡ option_map string_bytes (lookup (is_at (λ k. slice_cmp nat_cmp name (string_bytes k))) es)
canonical_of-map name [] = refl
canonical_of-map {Z} name (e ∷ es) =
    elim (is_eq (slice_cmp nat_cmp name (string_bytes e.0))) as (λ b.
    cond b (Some (string_bytes e.1)) (canonical_of name (map pair_text es))
    ≡ option_map string_bytes (cond b (Some e.1) (lookup (is_at (λ k. slice_cmp nat_cmp name (string_bytes k))) es)))
    [ true ↦ refl | false ↦ canonical_of-map name es ]

-- the text of what the map returns is the canonical path among the texts
pub canonical_of-found : {Z : Type 0} (name : List ℕ) (es : List (String Z × String Z))
    (paths : Paths) (answer : Option (String Z)) →
    map pair_text es ≡ paths → answer ≡ lookup (is_at (λ k. slice_cmp nat_cmp name (string_bytes k))) es → option_map string_bytes answer ≡ canonical_of name paths
canonical_of-found name es paths answer texts is = ap (λ o. option_map string_bytes o) is ∙ sym (canonical_of-map name es) ∙ ap (canonical_of name) texts

-- Variables that are inserted into a map and removed from it, by their names and the texts of their
-- values.
use Rattle.std.specs.BTreeMap.{insert_entry}
use Rattle.std.specs.Ordering.{match_ordering}
use Rattle.std.specs.declared.cmp.Ordering.TheVariants.{Less, Equal, Greater}
use Rattle.std.specs.List.Sorted.{IsStrictlySortedBy}
use Rattle.std.specs.Map.{keys_of}
use Rattle.std.proofs.Common.{◌≡◌, ap, refl, sym, subst, ℕ, List, [], ◌∷◌, map, filter, not, string_bytes, true, false, cond, String}
use Rattle.duct_system.specs.Name.{is_same_name, name_cmp}
use Rattle.duct_system.specs.SpecView.{AreOrdered, var_view, with_var, without_var}

-- the view of a map with one more entry is the view of the map with that variable set
pub insert_var : {Z : Type 0} (es : List (List ℕ × String Z)) (k : List ℕ) (v : String Z)
    → map var_view (insert_entry name_cmp es k v) ≡ with_var k (string_bytes v) (map var_view es)
insert_var [] k v = refl
insert_var {Z} (e ∷ es) k v =
    elim (name_cmp k e.0) as (λ o.
    map var_view (match_ordering o ((k, v) ∷ e ∷ es) ((e.0, v) ∷ es) (e ∷ insert_entry name_cmp es k v))
    ≡ match_ordering o ((k, string_bytes v) ∷ var_view e ∷ map var_view es) ((e.0, string_bytes v) ∷ map var_view es) (var_view e ∷ with_var k (string_bytes v) (map var_view es)))
    [ Less ↦ refl | Equal ↦ refl | Greater ↦ ap (λ r. var_view e ∷ r) (insert_var es k v) ]

-- the view of the entries with other names is the view of the map without this name
pub filter_vars : {Z : Type 0} (name : List ℕ) (es : List (List ℕ × String Z))
    → map var_view (filter (λ e. not (is_same_name name e.0)) es) ≡ without_var name (map var_view es)
filter_vars name [] = refl
filter_vars {Z} name (e ∷ es) =
    elim (not (is_same_name name e.0)) as (λ b.
    map var_view (cond b (e ∷ filter (λ e. not (is_same_name name e.0)) es) (filter (λ e. not (is_same_name name e.0)) es))
    ≡ cond b (var_view e ∷ without_var name (map var_view es)) (without_var name (map var_view es)))
    [ true ↦ ap (λ r. var_view e ∷ r) (filter_vars name es) | false ↦ filter_vars name es ]

keys_seen : {Z : Type 0} (es : List (List ℕ × String Z)) → keys_of (map var_view es) ≡ keys_of es
keys_seen [] = refl
keys_seen (e ∷ es) = ap (λ names. e.0 ∷ names) (keys_seen es)

-- the variables of a map are in order
pub are_ordered : {Z : Type 0} (es : List (List ℕ × String Z))
    → IsStrictlySortedBy name_cmp (keys_of es) → AreOrdered (map var_view es)
are_ordered es sorted = subst (IsStrictlySortedBy name_cmp) (sym (keys_seen es)) sorted

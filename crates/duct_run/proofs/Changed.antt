-- Variables that are made of pairs, inserted or removed, and what a look-up finds in them.
use Rattle.std.specs.declared.cmp.Ordering.TheVariants.{Less}
use Rattle.duct_run.proofs.Common.{insert_entry, is_at, map-append, Vars, AreOrdered, pair_text, said_of, spelled, var_view, variable_in, insert_var, are_ordered, VariableChange, Removes, Replaces, variable}
use Rattle.std.specs.List.{AllByRecursion, AllZip}
use Rattle.std.specs.List.Sorted.{IsStrictlySortedBy}
use Rattle.std.specs.Map.{keys_of, remove_entry}
use Rattle.std.specs.Ordering.{is_eq}
use Rattle.std.proofs.Common.{Option, ◌≡◌, refl, ap, sym, ◌∙◌, Bool, true, false, ℕ, List, [], ◌∷◌, ◌++◌, cond, map, string_bytes, Some, None, String}
use Rattle.std.proofs.lemmas.Map.{NonePasses}
use Rattle.duct_system.specs.Name.{is_same_name, name_cmp}
use Rattle.duct_system.proofs.Variables.{name_equiv, name_ties, none_there, same_at, variable_in-with, said_of-more}
use Rattle.duct_start.specs.Surroundings.{Sets}

-- a look-up of a name in these variables finds what these pairs have for it
abbrev pub FindsSaid : {Z : Type 0} → List (List ℕ × String Z) → Vars → Type 0
FindsSaid es said = (name : List ℕ) → variable_in name (map var_view es) ≡ said_of name said

-- one more pair is inserted
pub finds_more : {Z : Type 0} (es new : List (List ℕ × String Z))
    (pairs : List (String Z × String Z)) (item : String Z × String Z) (k : List ℕ) (v : String Z)
    → FindsSaid es (map pair_text pairs) → IsStrictlySortedBy name_cmp (keys_of es)
    → new ≡ insert_entry name_cmp es k v
    → k ≡ string_bytes item.0 → string_bytes v ≡ string_bytes item.1
    → FindsSaid new (map pair_text (pairs ++ item ∷ []))
finds_more es new pairs item k v finds sorted is same_name same_value = λ name.
    let said : Vars = map pair_text pairs in
    ap (λ xs. variable_in name (map var_view xs)) is ∙ ap (variable_in name) (insert_var es k v)
    ∙ variable_in-with name (map var_view es) k (string_bytes v) (are_ordered es sorted)
    ∙ ap (λ o. cond (is_same_name name k) (Some (spelled k o, string_bytes v)) o) (finds name)
    ∙ sym (said_of-more name said k (string_bytes v))
    ∙ (λ i. said_of name (said ++ (same_name i, same_value i) ∷ []))
    ∙ sym (ap (said_of name) (map-append pair_text pairs (item ∷ [])))

-- a copy has the variables of what was copied
pub copied_vars : {Z : Type 0} (es copy : List (List ℕ × String Z))
    → AllZip (λ p q. (q.0 ≡ p.0) × (string_bytes q.1 ≡ string_bytes p.1)) es copy
    → map var_view copy ≡ map var_view es
copied_vars [] [] same = refl
copied_vars [] (c ∷ copy) same = absurd same
copied_vars (e ∷ es) [] same = absurd same
copied_vars {Z} (e ∷ es) (c ∷ copy) same =
    let rest : map (var_view {Z = Z}) copy ≡ map var_view es = copied_vars es copy same.1 in
    (λ i. (same.0.0 i, same.0.1 i) ∷ rest i)

removed_vars : {Z : Type 0} (test : List ℕ → Bool) (es : List (List ℕ × String Z))
    → map var_view (remove_entry test es) ≡ remove_entry test (map var_view es)
removed_vars test [] = refl
removed_vars {Z} test (e ∷ es) =
    elim (test e.0) as (λ b. map var_view (cond b es (e ∷ remove_entry test es)) ≡ cond b (map var_view es) (var_view e ∷ remove_entry test (map var_view es)))
    [ true ↦ refl | false ↦ ap (λ r. var_view e ∷ r) (removed_vars test es) ]

none_behind : (k : List ℕ) (vars : Vars) → AllByRecursion (λ y. name_cmp k y ≡ Less) (keys_of vars)
    → NonePasses (is_at (name_cmp k)) vars
none_behind k [] above = tt
none_behind k (e ∷ es) above = (ap is_eq above.0, none_behind k es above.1)

module _ (name k : List ℕ) where
  gone_here : (e : List ℕ × List ℕ) (rest : Option (List ℕ × List ℕ)) (b c : Bool) → b ≡ c
      → (c ≡ true → rest ≡ None) → rest ≡ cond b None (cond c (Some e) rest)
  gone_here e rest true true same none = none refl
  gone_here e rest false false same none = refl
  gone_here e rest true false same none = absurd (cc)
  gone_here e rest false true same none = absurd (cc)

  gone_later : (e : List ℕ × List ℕ) (rest : Option (List ℕ × List ℕ)) (b c : Bool)
      → (b ≡ true → c ≡ true → ⊥) → cond c (Some e) (cond b None rest) ≡ cond b None
      (cond c (Some e) rest)
  gone_later e rest true true apart = absurd (apart refl refl)
  gone_later e rest true false apart = refl
  gone_later e rest false true apart = refl
  gone_later e rest false false apart = refl

  apart : (other : List ℕ) → is_eq (name_cmp k other) ≡ false → is_same_name name k ≡ true
      → is_same_name name other ≡ true → ⊥
  apart other differ one two = let same = sym (same_at name k other one) ∙ two in let tie = name_ties k other ∙ differ in cc

  -- a removed name is not found in any spelling, and each other name is found as before
  variable_in-remove_entry : (vars : Vars) → AreOrdered vars →
      variable_in name (remove_entry (is_at (name_cmp k)) vars) ≡ cond (is_same_name name k) None (variable_in name vars)
  unfolding IsStrictlySortedBy
  variable_in-remove_entry [] ordered = none_twice (is_same_name name k)
    where
      none_twice : (b : Bool) → variable_in name [] ≡ cond b None (variable_in name [])
      none_twice true = refl
      none_twice false = refl
  variable_in-remove_entry (e ∷ es) ordered = by (is_eq (name_cmp k e.0)) refl (variable_in-remove_entry es ordered.1)
    where
      by : (b : Bool) → is_eq (name_cmp k e.0) ≡ b →
          variable_in name (remove_entry (is_at (name_cmp k)) es) ≡ cond (is_same_name name k) None (variable_in name es) →
          variable_in name (cond b es (e ∷ remove_entry (is_at (name_cmp k)) es)) ≡ cond (is_same_name name k) None (variable_in name (e ∷ es))
      by true is rest =
          gone_here e (variable_in name es) (is_same_name name k) (is_same_name name e.0)
          (name_equiv.symm name k ∙ same_at k e.0 name (name_ties k e.0 ∙ is) ∙ name_equiv.symm e.0 name)
          (λ same. none_there name e.0 same es (none_behind e.0 es ordered.0))
      by false is rest =
          ap (λ o. cond (is_same_name name e.0) (Some e) o) rest
          ∙ gone_later e (variable_in name es) (is_same_name name k) (is_same_name name e.0) (apart e.0 is)

module _ {Z : Type 0} (es new : List (List ℕ × String Z)) where
  -- a variable that was inserted
  pub put_in : (k : List ℕ) (v : String Z) (other value : List ℕ)
      → k ≡ other → string_bytes v ≡ value → new ≡ insert_entry name_cmp es k v
      → AreOrdered (map var_view es) → (pairs : Vars) (name : List ℕ)
      → variable_in name (map var_view new)
      ≡ variable pairs (Sets other value ∷ Replaces (map var_view es) ∷ []) name
  put_in k v other value same_name same_value is ordered pairs name =
      ap (λ xs. variable_in name (map var_view xs)) is ∙ ap (variable_in name) (insert_var es k v)
      ∙ variable_in-with name (map var_view es) k (string_bytes v) ordered
      ∙ (λ i. cond (is_same_name name (same_name i)) (Some (spelled (same_name i) (variable_in name (map var_view es)), same_value i)) (variable_in name (map var_view es)))

  -- a name that was removed
  pub taken_away : (k : List ℕ) → new ≡ remove_entry (is_at (name_cmp k)) es
      → AreOrdered (map var_view es) → (pairs : Vars) (name : List ℕ)
      → variable_in name (map var_view new)
      ≡ variable pairs (Removes k ∷ Replaces (map var_view es) ∷ []) name
  taken_away k is ordered pairs name =
      ap (λ xs. variable_in name (map var_view xs)) is ∙ ap (variable_in name) (removed_vars (is_at (name_cmp k)) es)
      ∙ variable_in-remove_entry name k (map var_view es) ordered

-- what is found after some changes decides what is found from them on
pub found_behind : (pairs : Vars) (changes some other : List VariableChange)
    → ((name : List ℕ) → variable pairs some name ≡ variable pairs other name)
    → (name : List ℕ)
    → variable pairs (changes ++ some) name ≡ variable pairs (changes ++ other) name
found_behind pairs [] some other same name = same name
found_behind pairs (Sets k v ∷ changes) some other same name =
    ap (λ o. cond (is_same_name name k) (Some (spelled k o, v)) o) (found_behind pairs changes some other same name)
found_behind pairs (Removes k ∷ changes) some other same name =
    ap (λ o. cond (is_same_name name k) None o) (found_behind pairs changes some other same name)
found_behind pairs (Replaces vars ∷ changes) some other same name = refl

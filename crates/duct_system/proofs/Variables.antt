-- Lookups of variables that were set and removed.
use Rattle.std.specs.BTreeMap.{is_at}
use Rattle.std.specs.Cmp.{IsTotalOrder, IsEquivalence, on_total, on_equiv}
use Rattle.std.specs.Cmp.Lexicographic.{nat_list_cmp_total, nat_list_eq_equiv, texts_ties}
use Rattle.std.specs.Map.{keys_of}
use Rattle.std.specs.List.{AllByRecursion}
use Rattle.std.specs.List.Sorted.{IsStrictlySortedBy}
use Rattle.std.specs.Ordering.{is_eq, match_ordering, ordering_reverse}
use Rattle.std.specs.declared.cmp.Ordering.{Ordering}
use Rattle.std.specs.declared.cmp.Ordering.TheVariants.{Less, Equal, Greater}
use Rattle.std.proofs.Common.{◌≡◌, refl, ap, sym, ◌∙◌, ℕ, Bool, true, false, cond, List, [], ◌∷◌, ◌++◌, Some, None, Option}
use Rattle.std.proofs.lemmas.Map.{NonePasses}
use Rattle.std.proofs.lemmas.Map.Entries.{none_below_head}
use Rattle.std.proofs.lemmas.Map.Keys.{sorted_tail}
use Rattle.duct_system.specs.Name.{name_form, is_same_name, name_cmp}
use Rattle.duct_system.specs.SpecView.{Vars, AreOrdered, variable_in, with_var, spelled, last_value, said_of}

-- names are lawful keys: an equivalence, and an order in which only equal names are Equal
pub name_equiv : IsEquivalence is_same_name
name_equiv = on_equiv name_form nat_list_eq_equiv

pub name_total : IsTotalOrder name_cmp
name_total = on_total name_form nat_list_cmp_total

pub name_ties : (one other : List ℕ) → is_same_name one other ≡ is_eq (name_cmp one other)
name_ties one other = texts_ties (name_form one) (name_form other)

-- two spellings of a name are equal to the same names
pub same_at : (name other third : List ℕ) → is_same_name name other ≡ true
    → is_same_name name third ≡ is_same_name other third
same_at name other third same = name_equiv.congr name other third same

module _ (name : List ℕ) where
  -- a name that is no key, in any spelling, is not found
  pub none_there : (k : List ℕ) → is_same_name name k ≡ true → (vars : Vars)
      → NonePasses (is_at (name_cmp k)) vars → variable_in name vars ≡ None
  none_there k same [] none = refl
  none_there k same (e ∷ es) none =
      ap (λ b. cond b (Some e) (variable_in name es)) (same_at name k e.0 same ∙ name_ties k e.0 ∙ none.0) ∙ none_there k same es none.1

  less_case : (b : Bool) (k v : List ℕ) (rest : Option (List ℕ × List ℕ))
      → (b ≡ true → rest ≡ None) → cond b (Some (k, v)) rest ≡ cond b
      (Some (spelled k rest, v)) rest
  less_case true k v rest none = ap (λ r. Some (spelled k r, v)) (sym (none refl))
  less_case false k v rest none = refl

  equal_case : (b c : Bool) (e : List ℕ × List ℕ) (k v : List ℕ) (rest : Option (List ℕ × List ℕ))
      → b ≡ c → cond c (Some (e.0, v)) rest ≡ cond b (Some (spelled k (cond c (Some e) rest), v))
      (cond c (Some e) rest)
  equal_case true true e k v rest is = refl
  equal_case false false e k v rest is = refl
  equal_case true false e k v rest is = absurd (cc)
  equal_case false true e k v rest is = absurd (cc)

  greater_case : (b c : Bool) (e : List ℕ × List ℕ) (k v : List ℕ)
      (rest : Option (List ℕ × List ℕ)) → (b ≡ true → c ≡ true → ⊥) →
      cond c (Some e) (cond b (Some (spelled k rest, v)) rest) ≡ cond b (Some (spelled k (cond c (Some e) rest), v)) (cond c (Some e) rest)
  greater_case true true e k v rest apart = absurd (apart refl refl)
  greater_case true false e k v rest apart = refl
  greater_case false true e k v rest apart = refl
  greater_case false false e k v rest apart = refl

  -- a name that equals k doesn't equal a name that k doesn't equal
  apart : (k other : List ℕ) (o : Ordering) → name_cmp k other ≡ o → is_eq o ≡ false
      → is_same_name name k ≡ true → is_same_name name other ≡ true → ⊥
  apart k other o is differ one two = let same = sym (same_at name k other one) ∙ two in let tie = name_ties k other ∙ ap is_eq is ∙ differ in cc

  with_case : (e : List ℕ × List ℕ) (es : Vars) (k v : List ℕ) (o : Ordering) → name_cmp k e.0 ≡ o
      → AreOrdered (e ∷ es) →
      variable_in name (with_var k v es) ≡ cond (is_same_name name k) (Some (spelled k (variable_in name es), v)) (variable_in name es) →
      variable_in name (match_ordering o ((k, v) ∷ e ∷ es) ((e.0, v) ∷ es) (e ∷ with_var k v es)) ≡ cond (is_same_name name k) (Some (spelled k (variable_in name (e ∷ es)), v)) (variable_in name (e ∷ es))
  with_case e es k v Less is ordered rest =
      less_case (is_same_name name k) k v (variable_in name (e ∷ es)) (λ same. none_there k same (e ∷ es) (none_below_head name_total k e es ordered is))
  with_case e es k v Equal is ordered rest =
      equal_case (is_same_name name k) (is_same_name name e.0) e k v (variable_in name es)
      (name_equiv.symm name k ∙ same_at k e.0 name (name_ties k e.0 ∙ ap is_eq is) ∙ name_equiv.symm e.0 name)
  with_case e es k v Greater is ordered rest =
      ap (λ r. cond (is_same_name name e.0) (Some e) r) rest
      ∙ greater_case (is_same_name name k) (is_same_name name e.0) e k v (variable_in name es) (apart k e.0 Greater is refl)

  -- setting a variable keeps a spelling that is already there, and changes no lookup of another
  -- name
  pub variable_in-with : (vars : Vars) (k v : List ℕ) → AreOrdered vars
      → variable_in name (with_var k v vars)
      ≡ cond (is_same_name name k) (Some (spelled k (variable_in name vars), v))
      (variable_in name vars)
  variable_in-with [] k v ordered = refl
  variable_in-with (e ∷ es) k v ordered =
      with_case e es k v (name_cmp k e.0) refl ordered (variable_in-with es k v (sorted_tail name_cmp e.0 (keys_of es) ordered))

  last_value-more : (vars : Vars) (value k v : List ℕ)
      → last_value name value (vars ++ (k, v) ∷ []) ≡ cond (is_same_name name k) v
      (last_value name value vars)
  last_value-more [] value k v = refl
  last_value-more (e ∷ es) value k v = last_value-more es (cond (is_same_name name e.0) e.1 value) k v

  said_case : (b c : Bool) (e : List ℕ × List ℕ) (last k v : List ℕ)
      (rest : Option (List ℕ × List ℕ)) →
      cond c (Some (e.0, cond b v last)) (cond b (Some (spelled k rest, v)) rest) ≡ cond b (Some (spelled k (cond c (Some (e.0, last)) rest), v)) (cond c (Some (e.0, last)) rest)
  said_case true true e last k v rest = refl
  said_case true false e last k v rest = refl
  said_case false true e last k v rest = refl
  said_case false false e last k v rest = refl

  -- one more variable at the end changes the value of its name, and keeps the spelling that was
  -- first
  pub said_of-more : (vars : Vars) (k v : List ℕ)
      → said_of name (vars ++ (k, v) ∷ [])
      ≡ cond (is_same_name name k) (Some (spelled k (said_of name vars), v)) (said_of name vars)
  said_of-more [] k v = refl
  said_of-more (e ∷ es) k v =
      (λ i. cond (is_same_name name e.0) (Some (e.0, last_value-more es e.1 k v i)) (said_of-more es k v i))
      ∙ said_case (is_same_name name k) (is_same_name name e.0) e (last_value name e.1 es) k v (said_of name es)

-- a name that is below k and below all names of some variables is below all of them once k is set
with_above : (x k v : List ℕ) (es : Vars) → name_cmp x k ≡ Less
    → AllByRecursion (λ y. name_cmp x y ≡ Less) (keys_of es) →
    AllByRecursion (λ y. name_cmp x y ≡ Less) (keys_of (with_var k v es))
with_above x k v [] less all = (less, tt)
with_above x k v (e ∷ es) less all =
    elim (name_cmp k e.0) as (λ o. AllByRecursion (λ y. name_cmp x y ≡ Less) (keys_of (match_ordering o ((k, v) ∷ e ∷ es) ((e.0, v) ∷ es) (e ∷ with_var k v es))))
    [ Less ↦ (less, all) | Equal ↦ all | Greater ↦ (all.0, with_above x k v es less all.1) ]

-- a name that is below another one is below all names above that one
above_all : (x y : List ℕ) (names : List (List ℕ)) → name_cmp x y ≡ Less
    → AllByRecursion (λ z. name_cmp y z ≡ Less) names
    → AllByRecursion (λ z. name_cmp x z ≡ Less) names
above_all x y [] less all = tt
above_all x y (z ∷ names) less all = (name_total.trans x y z less all.0, above_all x y names less all.1)

-- variables stay in order when one is set
pub with_ordered : (es : Vars) (k v : List ℕ) → AreOrdered es → AreOrdered (with_var k v es)
unfolding IsStrictlySortedBy
with_ordered [] k v ordered = (tt, tt)
with_ordered (e ∷ es) k v ordered = by (name_cmp k e.0) refl (with_ordered es k v ordered.1)
  where
    by : (o : Ordering) → name_cmp k e.0 ≡ o → AreOrdered (with_var k v es)
        → AreOrdered (match_ordering o ((k, v) ∷ e ∷ es) ((e.0, v) ∷ es) (e ∷ with_var k v es))
    by Less is rest = ((is, above_all k e.0 (keys_of es) is ordered.0), ordered)
    by Equal is rest = ordered
    by Greater is rest = (with_above e.0 k v es (name_total.antisymm e.0 k ∙ ap ordering_reverse is) ordered.0, rest)

-- Changes of variables: collected with the nearest first, then applied with the furthest first.
use Rattle.duct_run.proofs.Common.{option_or, BTreeMap, append-nil, map-append, Vars, said_of, var_view, variable_in, VariableChange, Replaces, variable, change_of, changes_of, whole_of}
use Rattle.std.specs.Borrow.{Bor}
use Rattle.std.proofs.Common.{Global, ◌≡◌, refl, ap, sym, ◌∙◌, append_assoc, ℕ, List, [], ◌∷◌, ◌++◌, map, is_some, true, Some, None, Option, String}
use Rattle.duct_run.specs.declared.variables.VariableChange as declared
use Rattle.duct_run.specs.declared.variables.Changes.{Changes}
use Rattle.duct_run.proofs.Changed.{found_behind}

-- what is outside of variables that replace all others does not count
hidden : (single outer other : List VariableChange) (vars pairs : Vars) (name : List ℕ)
    → variable pairs ((single ++ Replaces vars ∷ []) ++ outer) name
    ≡ variable pairs ((single ++ Replaces vars ∷ []) ++ other) name
hidden single outer other vars pairs name =
    ap (λ xs. variable pairs xs name) (append_assoc single (Replaces vars ∷ []) outer)
    ∙ found_behind pairs single (Replaces vars ∷ outer) (Replaces vars ∷ other) (λ o. refl) name
    ∙ sym (ap (λ xs. variable pairs xs name) (append_assoc single (Replaces vars ∷ []) other))

-- where there are such variables, one more change outside of them is not read
pub not_read : (single : List VariableChange) (whole : Option (Bor (BTreeMap (List ℕ) (String Global))))
    → is_some whole ≡ true → (outer : List VariableChange) (change : VariableChange) (pairs : Vars) (name : List ℕ)
    → variable pairs ((single ++ whole_of whole) ++ outer) name
    ≡ variable pairs ((single ++ whole_of whole) ++ change ∷ outer) name
not_read single None is outer change pairs name = absurd (cc)
not_read single (Some vars) is outer change pairs name = hidden single outer (change ∷ outer) _ pairs name

-- the first such variables are kept
pub first_kept : (single : List VariableChange) (whole : Option (Bor (BTreeMap (List ℕ) (String Global))))
    (vars : Bor (BTreeMap (List ℕ) (String Global)))
    → (outer : List VariableChange) (pairs : Vars) (name : List ℕ)
    → variable pairs ((single ++ whole_of (option_or whole (Some vars))) ++ outer) name
    ≡ variable pairs ((single ++ whole_of whole) ++ Replaces (map var_view vars.now.entries) ∷ outer) name
first_kept single None vars outer pairs name =
    ap (λ xs. variable pairs xs name)
    (append_assoc single (Replaces (map var_view vars.now.entries) ∷ []) outer
    ∙ ap (λ xs. xs ++ Replaces (map var_view vars.now.entries) ∷ outer) (sym (append-nil single)))
first_kept single (Some first) vars outer pairs name = hidden single outer _ _ pairs name

-- the code begins with the variables that replace all others
pub begun_whole : (changes : Changes) (whole : Bor (BTreeMap (List ℕ) (String Global)))
    (vars : Vars) → changes.whole ≡ Some whole → vars ≡ map var_view whole.now.entries
    → (pairs : Vars) (name : List ℕ)
    → variable pairs (map change_of changes.single.items ++ Replaces vars ∷ []) name
    ≡ variable pairs (changes_of changes) name
begun_whole changes whole vars is same pairs name =
    ap (λ vs. variable pairs (map change_of changes.single.items ++ Replaces vs ∷ []) name) same
    ∙ ap (λ o. variable pairs (map change_of changes.single.items ++ whole_of o) name) (sym is)

-- or with those of the environment
pub begun_said : (changes : Changes) (vars pairs : Vars) → changes.whole ≡ None
    → ((name : List ℕ) → variable_in name vars ≡ said_of name pairs) → (name : List ℕ)
    → variable pairs (map change_of changes.single.items ++ Replaces vars ∷ []) name
    ≡ variable pairs (changes_of changes) name
begun_said changes vars pairs is said name =
    found_behind pairs (map change_of changes.single.items) (Replaces vars ∷ []) [] said name
    ∙ ap (λ o. variable pairs (map change_of changes.single.items ++ whole_of o) name) (sym is)

-- the furthest remaining change is applied
pub one_made : (old left : List declared.VariableChange) (change : declared.VariableChange)
    (before after pairs : Vars) → old ≡ left ++ change ∷ []
    → ((name : List ℕ)
    → variable_in name after ≡ variable pairs (change_of change ∷ Replaces before ∷ []) name)
    → (name : List ℕ)
    → variable pairs (map change_of left ++ Replaces after ∷ []) name
    ≡ variable pairs (map change_of old ++ Replaces before ∷ []) name
one_made old left change before after pairs is made name =
    found_behind pairs (map change_of left) (Replaces after ∷ []) (change_of change ∷ Replaces before ∷ []) made name
    ∙ sym (ap (λ xs. variable pairs xs name)
    (ap (λ xs. map change_of xs ++ Replaces before ∷ []) is ∙ ap (λ xs. xs ++ Replaces before ∷ []) (map-append change_of left (change ∷ []))
    ∙ append_assoc (map change_of left) (change_of change ∷ []) (Replaces before ∷ [])))

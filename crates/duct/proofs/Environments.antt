-- What a lookup finds of variables that are inserted one after the other.
use Rattle.std.specs.List.Sorted.{IsStrictlySortedBy}
use Rattle.std.proofs.Common.{Option, ◌≡◌, refl, ap, sym, ◌∙◌, append_assoc, ℕ, List, [], ◌∷◌, ◌++◌, cond, fold, Some}
use Rattle.std.proofs.lemmas.List.{append-nil}
use Rattle.duct_system.specs.Name.{is_same_name}
use Rattle.duct_system.specs.SpecView.{Vars, AreOrdered, said_of, spelled, variable_in, with_var}
use Rattle.duct_system.proofs.Variables.{variable_in-with, said_of-more, with_ordered}
use Rattle.duct.specs.LastValues.{last_values}

finds_all : (pairs vars said : Vars) → AreOrdered vars
    → ((name : List ℕ) → variable_in name vars ≡ said_of name said) →
    (name : List ℕ) → variable_in name (fold (λ vars pair. with_var pair.0 pair.1 vars) vars pairs) ≡ said_of name (said ++ pairs)
finds_all [] vars said ordered finds name = finds name ∙ ap (said_of name) (sym (append-nil said))
finds_all (p ∷ ps) vars said ordered finds name =
    finds_all ps (with_var p.0 p.1 vars) (said ++ p ∷ []) (with_ordered vars p.0 p.1 ordered)
    (λ other. variable_in-with other vars p.0 p.1 ordered ∙ ap (λ o. cond (is_same_name other p.0) (Some (spelled p.0 o, p.1)) o) (finds other)
    ∙ sym (said_of-more other said p.0 p.1)) name
    ∙ ap (said_of name) (append_assoc said (p ∷ []) ps)

-- for each name a full environment has the first spelling and the last value of its pairs
pub last_values_say : (pairs : Vars) (name : List ℕ)
    → variable_in name (last_values pairs) ≡ said_of name pairs
unfolding IsStrictlySortedBy
last_values_say pairs name = finds_all pairs [] [] tt (λ other. refl) name

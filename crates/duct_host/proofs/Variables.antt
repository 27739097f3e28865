-- The environment of a command, as its variables are set one after the other.
use Rattle.std.specs.Process.{command_var}
use Rattle.std.specs.declared.process.Command.{Command}
use Rattle.std.proofs.Common.{◌≡◌, ◌+◌, ◌<◌, ◌∙◌, refl, sym, ap, subst, true≢false, length, map, take, get_or, arith, add-one, ℕ, Bool, true, false, List, [], ◌∷◌, ◌++◌, Some, None, bytes_eq, if◌then◌else◌, option_map, Global}
use Rattle.std.proofs.Math.Seq.{take-suc}
use Rattle.std.proofs.lemmas.List.{get_or-map, length-map}
use Rattle.std.proofs.lemmas.Grind.{fold-append}
use Rattle.std.proofs.lemmas.Slice.Eq.{bytes_eq-Decides}
use Rattle.duct_system.specs.SpecView.{Vars}
use Rattle.duct_host.specs.Variables.{value_set, IsWholeEnvironment, Sets}

-- the value of a name after one more variable was added to a list
pub value_set_behind : (name : List ℕ) (vars : Vars) (key value : List ℕ) →
    value_set name (vars ++ (key, value) ∷ []) ≡ (if bytes_eq key name then Some value else value_set name vars)
value_set_behind name vars key value = fold-append (λ said var. if bytes_eq var.0 name then Some var.1 else said) None vars ((key, value) ∷ [])

-- a command's value of a name after one more variable was set, by whether that is the variable's
-- name
pub said_by_one_more : (b : Bool) (name : List ℕ) (vars : Vars) (key value : List ℕ)
    (old new : Command Global) →
    bytes_eq key name ≡ b → command_var old name ≡ option_map Some (value_set name vars) → Sets key value old new →
    command_var new name ≡ option_map Some (if b then Some value else value_set name vars)
said_by_one_more true name vars key value old new is before sets =
    subst (λ k. command_var new k ≡ Some (Some value)) ((bytes_eq-Decides key name).0 is) sets.1
said_by_one_more false name vars key value old new is before sets =
    sets.2 name (λ same. true≢false (sym ((bytes_eq-Decides key name).1 (sym same)) ∙ is)) ∙ before

-- one more variable after the others
pub whole_with_one_more : (old new : Command Global) (vars : Vars) (key value : List ℕ) →
    IsWholeEnvironment vars old → Sets key value old new → IsWholeEnvironment (vars ++ (key, value) ∷ []) new
whole_with_one_more old new vars key value whole sets = (
  sets.0 ∙ whole.0,
  λ name. said_by_one_more (bytes_eq key name) name vars key value old new refl (whole.1 name) sets
      ∙ ap (λ said. option_map Some said) (sym (value_set_behind name vars key value)),
)

-- a variable of a list after those before it
pub whole_up_to : {X : Type 0} (variable : X → List ℕ × List ℕ) (xs : List X) (i : ℕ) (d : X)
    (old new : Command Global) →
    i < length xs → IsWholeEnvironment (take i (map variable xs)) old →
    Sets (variable (get_or xs i d)).0 (variable (get_or xs i d)).1 old new → IsWholeEnvironment (take (i + 1) (map variable xs)) new
whole_up_to variable xs i d old new below whole sets =
    let longer : take (i + 1) (map variable xs) ≡ take i (map variable xs) ++ variable (get_or xs i d) ∷ [] =
    grind (arith, take-suc (map variable xs) i (variable d), get_or-map variable xs i d (variable d), length-map xs variable, add-one i) in
    subst (λ vars. IsWholeEnvironment vars new) (sym longer)
    (whole_with_one_more old new (take i (map variable xs)) (variable (get_or xs i d)).0 (variable (get_or xs i d)).1 whole sets)

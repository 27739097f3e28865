-- What a node overrides of the folder and of the variables that are set outside it.
use Rattle.std.proofs.Common.{◌≡◌, ℕ, List, [], ◌∷◌, ◌++◌, refl, ap, ◌∙◌, Bool, true, false, cond, Some, None, Option}
use Rattle.std.specs.Option.{option_or, option_map}
use Rattle.duct_system.specs.Name.{is_same_name}
use Rattle.duct_system.specs.SpecView.{Vars, spelled}
use Rattle.duct_system.proofs.Variables.{name_equiv, same_at}
use Rattle.duct_start.specs.Surroundings.{VariableChange, Sets, Removes, Replaces, variable, value_found}
use Rattle.duct_start.specs.Lookup.{changes_on, Path, within, step_of}
use Rattle.duct_start.specs.TreeView.{env, full_env}
use Rattle.duct_laws.specs.Laws.{InnerEnvironmentHides, InnerFolderReplaces, InnerVariableHides, NearestVariableCounts}

-- a folder that is set inside replaces each one that is set outside
pub inner_folder : (E H : Type 0) → InnerFolderReplaces E H
inner_folder E H [] up other p path = refl
inner_folder E H (segment ∷ front) up other p path =
    ap (option_or (step_of segment).folder) (inner_folder E H front up other p path)

-- if two lists of changes agree on a name, they still do with the same nearer changes added to both
behind : (pairs others : Vars) (name : List ℕ) (near one other : List VariableChange)
    → variable pairs one name ≡ variable others other name
    → variable pairs (near ++ one) name ≡ variable others (near ++ other) name
behind pairs others name [] one other same = same
behind pairs others name (Sets set value ∷ near) one other same =
    ap (λ further. cond (is_same_name name set) (Some (spelled set further, value)) further)
    (behind pairs others name near one other same)
behind pairs others name (Removes gone ∷ near) one other same =
    ap (λ further. cond (is_same_name name gone) None further)
    (behind pairs others name near one other same)
behind pairs others name (Replaces vars ∷ near) one other same = refl

-- the value of a pair, if there is a pair
abbrev valued : Option (List ℕ × List ℕ) → Option (List ℕ)
valued found = option_map (λ pair. pair.1) found

-- the value of a name that a change sets, or leaves as it is found further out
abbrev valued_by : Bool → List ℕ → List ℕ → Option (List ℕ × List ℕ) → Option (List ℕ)
valued_by b set value found = valued (cond b (Some (spelled set found, value)) found)

set_behind : (b : Bool) (set value : List ℕ) (one other : Option (List ℕ × List ℕ))
    → valued one ≡ valued other → valued_by b set value one ≡ valued_by b set value other
set_behind true set value one other same = refl
set_behind false set value one other same = same

removed_behind : (b : Bool) (one other : Option (List ℕ × List ℕ)) → valued one ≡ valued other
    → valued (cond b None one) ≡ valued (cond b None other)
removed_behind true one other same = refl
removed_behind false one other same = same

-- if two lists of changes give a name the same value, they still do with the same nearer changes
-- added to both
value_behind : (pairs : Vars) (name : List ℕ) (near one other : List VariableChange)
    → value_found pairs one name ≡ value_found pairs other name
    → value_found pairs (near ++ one) name ≡ value_found pairs (near ++ other) name
value_behind pairs name [] one other same = same
value_behind pairs name (Sets set value ∷ near) one other same =
    set_behind (is_same_name name set) set value (variable pairs (near ++ one) name)
    (variable pairs (near ++ other) name) (value_behind pairs name near one other same)
value_behind pairs name (Removes gone ∷ near) one other same =
    removed_behind (is_same_name name gone) (variable pairs (near ++ one) name)
    (variable pairs (near ++ other) name) (value_behind pairs name near one other same)
value_behind pairs name (Replaces vars ∷ near) one other same = refl

module _ {E H : Type 0} where
  value_round : (pairs : Vars) (name : List ℕ) (front one other : Path E H)
      → value_found pairs (changes_on one) name ≡ value_found pairs (changes_on other) name
      → value_found pairs (changes_on (front ++ one)) name
      ≡ value_found pairs (changes_on (front ++ other)) name
  value_round pairs name [] one other same = same
  value_round pairs name (segment ∷ front) one other same =
      value_behind pairs name (step_of segment).changes (changes_on (front ++ one))
      (changes_on (front ++ other)) (value_round pairs name front one other same)

-- the nearest change that sets a variable decides its value
pub nearest_variable : (E H : Type 0) → NearestVariableCounts E H
nearest_variable E H pairs up p set value name same =
    ap (λ b. valued_by b set value (variable pairs (changes_on up) name)) same

-- a variable that is set inside hides the value of one of its name that is set outside
pub inner_variable : (E H : Type 0) → InnerVariableHides E H
inner_variable E H pairs front middle up p q inner value outer hidden same name =
    value_round pairs name front
    (within p (env inner value) ∷ (middle ++ within q (env outer hidden) ∷ up))
    (within p (env inner value) ∷ (middle ++ up))
    (by (is_same_name name inner) (is_same_name name outer) refl
    (name_equiv.symm name inner ∙ same_at inner outer name same ∙ name_equiv.symm outer name))
  where
    -- the path outside the inner change, with the outer change and without it
    both : Path E H
    both = middle ++ within q (env outer hidden) ∷ up

    one : Path E H
    one = middle ++ up

    far : Option (List ℕ × List ℕ)
    far = variable pairs (changes_on up) name

    passed : is_same_name name outer ≡ false
        → value_found pairs (changes_on (within q (env outer hidden) ∷ up)) name ≡ valued far
    passed differs = ap (λ b. valued_by b outer hidden far) differs

    by : (b c : Bool) → is_same_name name outer ≡ c → b ≡ c
        → valued_by b inner value (variable pairs (changes_on both) name)
        ≡ valued_by b inner value (variable pairs (changes_on one) name)
    by true c is tied = refl
    by false false is tied =
        value_round pairs name middle (within q (env outer hidden) ∷ up) up (passed is)
    by false true is tied = absurd (cc)

-- a full environment that is set inside hides the changes of variables outside, and the variables
-- of the parent
pub inner_environment : (E H : Type 0) → InnerEnvironmentHides E H
inner_environment E H pairs others [] up other p vars name = refl
inner_environment E H pairs others (segment ∷ front) up other p vars name =
    behind pairs others name (step_of segment).changes
    (changes_on (front ++ within p (full_env vars) ∷ up))
    (changes_on (front ++ within p (full_env vars) ∷ other))
    (inner_environment E H pairs others front up other p vars name)

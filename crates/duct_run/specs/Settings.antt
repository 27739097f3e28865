-- What the scopes around a command set for it, with the changes of variables, as the code collects
-- it.
use Rattle.std.specs.Prelude.{ℕ, List, [], ◌∷◌, ◌++◌, ◌≡◌, map, Some, None, Option, String}
use Rattle.std.specs.Borrow.{Bor}
use Rattle.std.specs.Option.{option_copied, option_or}
use Rattle.duct_system.specs.SpecView.{Vars, var_view}
use Rattle.duct_start.specs.Surroundings.{variable, VariableChange, Replaces}
use Rattle.duct_run.specs.Actions.{Scope}
use Rattle.duct_run.specs.declared.settings.Settings.{Settings}
use Rattle.std.specs.BTreeMap.{BTreeMap}
use Rattle.duct_start.specs.Surroundings as found
use Rattle.duct_run.specs.declared.variables.Changes.{Changes}
use Rattle.duct_run.specs.declared.variables.VariableChange as declared
use Rattle.duct_run.specs.declared.variables.VariableChange.TheVariants as single

-- a change of one variable
abbrev pub change_of : declared.VariableChange → VariableChange
change_of (single.Sets name value) = found.Sets name.now value.now
change_of (single.Removes name) = found.Removes name.now

-- the variables that replace all others, if a scope sets them
abbrev pub whole_of : {Z : Type 0} → Option (Bor (BTreeMap (List ℕ) (String Z)))
    → List VariableChange
whole_of None = []
whole_of (Some vars) = Replaces (map var_view vars.now.entries) ∷ []

-- all changes, the nearest first
abbrev pub changes_of : Changes → List VariableChange
changes_of changes = map (λ c. change_of c) changes.single.items ++ whole_of changes.whole

-- one more change was added outside of these: a look-up finds the same among those outside of it
abbrev pub AddsChange : VariableChange → Changes → Changes → Type 0
AddsChange change old new = (outer : List VariableChange) (pairs : Vars) (name : List ℕ)
    → variable pairs (changes_of new ++ outer) name
    ≡ variable pairs (changes_of old ++ change ∷ outer) name

-- some hooks with their ends, the outermost first; the code has them with the innermost first
abbrev pub hooks_of : {E H : Type 0} → List (Bor H × Bor (List E)) → List (H × List E)
hooks_of [] = []
hooks_of (pair ∷ pairs) = hooks_of pairs ++ (pair.0.now, pair.1.now) ∷ []

-- with these settings, the scope outside makes this scope
pub record Sets {E H : Type 0} (settings : Settings E H) (outer scope : Scope E H) : Type 0 where
  pub folder_is : option_or (option_copied settings.folder) outer.folder ≡ scope.folder
  pub finds : (pairs : Vars) (name : List ℕ)
      → variable pairs (changes_of settings.changes ++ outer.changes) name
      ≡ variable pairs scope.changes name
  pub hooks_are : outer.hooks ++ hooks_of settings.hooks.items ≡ scope.hooks

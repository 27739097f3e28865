-- Scopes and actions as contracts see them.
use Rattle.std.specs.Prelude.{ℕ, List, map, string_bytes, [], ◌∷◌, ◌≡◌, All, length, String}
use Rattle.std.specs.Arc.{arc_value}
use Rattle.duct_system.specs.declared.spec.Port.{Port}
use Rattle.duct_run.specs.Actions as action
use Rattle.duct_run.specs.ActionList.{AreOutwards, IsWithin, resolved_all, scope_in, ScopeEntry, scopes_from}
use Rattle.duct_run.specs.Actions.{ActionOf, PerStream, Scope}
use Rattle.duct_run.specs.declared.action.Action.{Action}
use Rattle.duct_run.specs.declared.action.Action.TheVariants.{OpenRead, Create, Pipe, Input, Capture, Duplicate, DuplicateCapture, DuplicateCallerEnd, Parent, Close, Spawn, Feed}
use Rattle.duct_run.specs.declared.action.Ports.{Ports}
use Rattle.duct_system.specs.SpecView.{var_view}
use Rattle.duct_run.specs.Flat.{root_scope}
use Rattle.duct_run.specs.RunContract.{LeadToSomePlan, OpenOutputCapture}
use Rattle.duct_run.specs.declared.start.StartKind.{StartKind}
use Rattle.duct_run.specs.declared.start.StartKind.TheVariants.{Reading}
use Rattle.duct_start.specs.Surroundings.{Sets, Removes, Replaces}
use Rattle.duct_start.specs.Row.{SettingView, says_folder, says_change, says_hook}
use Rattle.duct_run.specs.declared.scope.Setting.{Setting}
use Rattle.duct_run.specs.declared.scope.Setting.TheVariants.{Dir, Env, EnvRemove, FullEnv, BeforeSpawn}
use Rattle.duct_run.specs.declared.scope.Scope as declared

-- what the node of a scope sets
abbrev pub setting_view : {E H : Type 0} → Setting E H → SettingView E H
setting_view (Dir path) = says_folder path.now
setting_view (Env name value) = says_change (Sets name.now value.now)
setting_view (EnvRemove name) = says_change (Removes name.now)
setting_view (FullEnv vars) = says_change (Replaces (map var_view vars.now.entries))
setting_view (BeforeSpawn hook ends) = says_hook hook.now ends.now

-- a scope with the index of the scope outside it
abbrev pub scope_view : {E H : Type 0} → declared.Scope E H → ScopeEntry E H
scope_view scope = (setting_view scope.setting, scope.outer)

-- the scopes of a list
abbrev pub scopes_view : {E H : Type 0} → List (declared.Scope E H) → List (ScopeEntry E H)
scopes_view scopes = map (λ s. scope_view s) scopes

-- what each scope of a list sets for its commands, the root's first
abbrev pub all_scopes : {E H : Type 0} → List (declared.Scope E H) → List (Scope E H)
all_scopes scopes = scopes_from (root_scope ∷ []) (scopes_view scopes)

-- the ports of three streams
abbrev pub ports_view : Ports → PerStream Port
ports_view ports = record { input = ports.input; output = ports.output; error = ports.error }

-- an action; paths, words and bytes as lists of bytes
abbrev pub action_view : {E : Type 0} → Action E → ActionOf E ℕ
action_view (OpenRead path) = action.open_read path.now
action_view (Create path) = action.create path.now
action_view Pipe = action.pipe
action_view Input = action.input
action_view (Capture which) = action.capture which
action_view (Duplicate depth) = action.duplicate depth
action_view (DuplicateCapture which) = action.duplicate_capture which
action_view (DuplicateCallerEnd end) = action.duplicate_caller_end end.now
action_view (Parent which) = action.parent which
action_view Close = action.close
action_view (Spawn scope words ports) =
    action.spawn scope (map string_bytes (arc_value words.now).items) (ports_view ports)
action_view (Feed bytes) = action.feed (arc_value bytes.now).items

-- the actions of a list
abbrev pub actions_view : {E : Type 0} → List (Action E) → List (ActionOf E ℕ)
actions_view actions = map (λ a. action_view a) actions

-- the actions of a list, each with what its scope sets
abbrev pub resolved_in : {E H : Type 0} → List (declared.Scope E H) → List (Action E)
    → List (action.Action E H)
resolved_in scopes actions = resolved_all (all_scopes scopes) (actions_view actions)

-- the spawn of a command in the scope of this index
abbrev pub spawn_in : {E H Z : Type 0} → List (declared.Scope E H) → ℕ → List (String Z) → Ports
    → action.Action E H
spawn_in scopes index words ports =
    action.spawn (scope_in (scopes_view scopes) index) (map string_bytes words) (ports_view ports)

-- a start of this kind can run these actions: each of its scopes comes after its outer one, each
-- command is in one of them, the actions lead to some plan, and a start that reads opens stdout's
-- capture pipe
pub record CanStart {E H : Type 0} (number_of : E → ℕ) (kind : StartKind)
    (scopes : List (declared.Scope E H)) (actions : List (Action E)) : Type 0 where
  pub outwards : AreOutwards (scopes_view scopes)
  pub within : All (IsWithin (length scopes)) (actions_view actions)
  pub leads : LeadToSomePlan number_of (resolved_in scopes actions)
  pub opens : kind ≡ Reading → OpenOutputCapture number_of (resolved_in scopes actions)

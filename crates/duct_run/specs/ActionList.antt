-- The flat plan with scopes by index: a list of actions, and the list of scopes that they name.
use Rattle.std.specs.Prelude.{ℕ, ◌+◌, ◌≤◌, ◌≡◌, None, Some, List, [], ◌∷◌, ◌++◌, length, map, slice_get, unwrap_or, Option}
use Rattle.duct_run.specs.Actions as action
use Rattle.duct_run.specs.Actions.{Action, ActionOf, Scope, PerStream}
use Rattle.duct_run.specs.Flat.{StreamSource, slot, command_actions, depth_inside, with_input, with_output, root_sources, root_scope, scope_inside, sources_inside, actions_around}
use Rattle.duct_start.specs.Row.{SettingView, row}
use Rattle.duct_start.specs.Step.{step_of_setting}
use Rattle.duct_start.specs.TreeView.{TreeView, command, pipe, around}

-- a scope in a list: what its node sets, and the index of its outer scope
abbrev pub ScopeEntry : Type 0 → Type 0 → Type 0
ScopeEntry E H = SettingView E H × ℕ

-- actions, and the scopes that were added for them
pub record ActionListView (E H : Type 0) : Type 0 where
  pub actions : List (ActionOf E ℕ)
  pub scopes : List (ScopeEntry E H)

-- the scopes of a node: its own one first, if it sets something, then those of its inner expression
abbrev pub with_scope_entry : {E H : Type 0} → Option (SettingView E H) → ℕ → List (ScopeEntry E H)
    → List (ScopeEntry E H)
with_scope_entry None outer inside = inside
with_scope_entry (Some says) outer inside = (says, outer) ∷ inside

-- the index of the scope inside a node, where the next new scope has the index `next`
abbrev pub scope_index : {A : Type 0} → Option A → ℕ → ℕ → ℕ
scope_index None outer next = outer
scope_index (Some says) outer next = next

-- the index of the next new scope after that
abbrev pub next_index : {A : Type 0} → Option A → ℕ → ℕ
next_index None next = next
next_index (Some says) next = next + 1

-- the actions of a tree and their new scopes, in the scope of index `i` and with these sources,
-- over a stack of depth `n`, where the next new scope has the index `next`
abbrev pub list_of_subtree : {E H : Type 0} → ℕ → PerStream (StreamSource E) → TreeView E H → ℕ → ℕ
    → ActionListView E H
list_of_subtree i w (command words) n next = record {
  actions = command_actions i w words;
  scopes = [];
}
list_of_subtree i w (pipe left right) n next =
    let a = list_of_subtree i (with_output (slot (n + 1)) w) left (n + 2) next in
    let b = list_of_subtree i (with_input (slot n) w) right (n + 1) (next + length a.scopes) in
    record {
      actions = action.pipe ∷ (a.actions ++ (action.close ∷ (b.actions ++ action.close ∷ [])));
      scopes = a.scopes ++ b.scopes;
    }
list_of_subtree i w (around modifier inner) n next =
    let r = row modifier in
    let a = list_of_subtree (scope_index r.says i next) (sources_inside r n w) inner
    (depth_inside r.opens n)
    (next_index r.says next) in
    record {
      actions = actions_around r.opens a.actions;
      scopes = with_scope_entry r.says i a.scopes;
    }

-- the scope of an index, or the root's if there is none; the first scope of the list is the root's
abbrev pub scope_at : {E H : Type 0} → List (Scope E H) → ℕ → Scope E H
scope_at scopes i = unwrap_or (slice_get scopes i) root_scope

-- the known scopes, with one more scope at the end
abbrev pub with_scope : {E H : Type 0} → List (Scope E H) → ScopeEntry E H → List (Scope E H)
with_scope known scope = known ++ scope_inside (step_of_setting scope.0) (scope_at known scope.1)
    ∷ []

-- the known scopes, followed by the scopes of a list
abbrev pub scopes_from : {E H : Type 0} → List (Scope E H) → List (ScopeEntry E H)
    → List (Scope E H)
scopes_from known [] = known
scopes_from known (scope ∷ scopes) = scopes_from (with_scope known scope) scopes

-- the scope of this index, where the root's scope has the index 0
abbrev pub scope_in : {E H : Type 0} → List (ScopeEntry E H) → ℕ → Scope E H
scope_in scopes i = scope_at (scopes_from (root_scope ∷ []) scopes) i

-- each scope comes after its outer scope
abbrev pub AreOutwards : {E H : Type 0} → List (ScopeEntry E H) → Type 0
AreOutwards {E} {H} scopes =
    (i : ℕ) (scope : ScopeEntry E H) → slice_get scopes i ≡ Some scope → scope.1 ≤ i

-- an action with the scope itself in place of its index
abbrev pub resolved : {E H : Type 0} → List (Scope E H) → ActionOf E ℕ → Action E H
resolved scopes (action.open_read path) = action.open_read path
resolved scopes (action.create path) = action.create path
resolved scopes action.pipe = action.pipe
resolved scopes action.input = action.input
resolved scopes (action.capture which) = action.capture which
resolved scopes (action.duplicate depth) = action.duplicate depth
resolved scopes (action.duplicate_capture which) = action.duplicate_capture which
resolved scopes (action.duplicate_caller_end end) = action.duplicate_caller_end end
resolved scopes (action.parent which) = action.parent which
resolved scopes action.close = action.close
resolved scopes (action.spawn i words ports) = action.spawn (scope_at scopes i) words ports
resolved scopes (action.feed bytes) = action.feed bytes
resolved scopes (action.finish which) = action.finish which

-- a list of actions with the scopes themselves in place of their indices
abbrev pub resolved_all : {E H : Type 0} → List (Scope E H) → List (ActionOf E ℕ)
    → List (Action E H)
resolved_all scopes actions = map (λ a. resolved scopes a) actions

-- the actions and scopes of a whole tree; the root's scope has the index 0
abbrev pub list_of : {E H : Type 0} → TreeView E H → ActionListView E H
list_of tree = list_of_subtree 0 root_sources tree 0 1

-- a command's scope is the root's or one of `count` others
abbrev pub IsWithin : {E : Type 0} → ℕ → ActionOf E ℕ → Type 0
IsWithin count (action.spawn i words ports) = i ≤ count
IsWithin count (action.open_read path) = Unit {0}
IsWithin count (action.create path) = Unit {0}
IsWithin count action.pipe = Unit {0}
IsWithin count action.input = Unit {0}
IsWithin count (action.capture which) = Unit {0}
IsWithin count (action.duplicate depth) = Unit {0}
IsWithin count (action.duplicate_capture which) = Unit {0}
IsWithin count (action.duplicate_caller_end end) = Unit {0}
IsWithin count (action.parent which) = Unit {0}
IsWithin count action.close = Unit {0}
IsWithin count (action.feed bytes) = Unit {0}
IsWithin count (action.finish which) = Unit {0}

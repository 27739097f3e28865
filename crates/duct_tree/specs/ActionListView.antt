-- The list that the first pass of a start makes, as contracts see it, and how it grows.
use Rattle.std.specs.Prelude.{ℕ, ◌+◌, List, [], ◌∷◌, ◌++◌, length, Some, None, Option}
use Rattle.duct_run.specs.Actions as action
use Rattle.duct_run.specs.Actions.{ActionOf, PerStream}
use Rattle.duct_run.specs.ActionList.{ActionListView, ScopeEntry, list_of_subtree}
use Rattle.duct_start.specs.Row.{RowOpening, SettingView, opens_nothing, opens_input, opens_read, opens_create, opens_capture, row}
use Rattle.duct_start.specs.TreeView.{ModifierView, TreeView}
use Rattle.duct_run.specs.ActionView.{actions_view, scopes_view}
use Rattle.duct_tree.specs.declared.compile.context.NodeContext.{NodeContext}
use Rattle.duct_tree.specs.declared.compile.action_list.ActionList.{ActionList}
use Rattle.duct_run.specs.Flat as flat
use Rattle.duct_tree.specs.declared.compile.context.StreamSource.{StreamSource}
use Rattle.duct_tree.specs.declared.compile.context.StreamSource.TheVariants.{Parents, Nothing, Slot, Captured, Lent}

-- where a command gets the end of a stream from
abbrev pub source_view : {E : Type 0} → StreamSource E → flat.StreamSource E
source_view (Parents stream) = flat.parents stream
source_view Nothing = flat.nothing
source_view (Slot depth) = flat.slot depth
source_view (Captured which) = flat.captured which
source_view (Lent end) = flat.lent end.now

-- the same for the three streams
abbrev pub sources_view : {E : Type 0} → NodeContext E → PerStream (flat.StreamSource E)
sources_view inside = record {
  input = source_view inside.input;
  output = source_view inside.output;
  error = source_view inside.error;
}

-- the actions and the scopes of a list
abbrev pub action_list_view : {E H : Type 0} → ActionList E H → ActionListView E H
action_list_view list = record {
  actions = actions_view list.actions.items;
  scopes = scopes_view list.scopes.items;
}

-- the list, plus the actions and scopes of a tree in this context
abbrev pub with_tree : {E H : Type 0} → NodeContext E → TreeView E H → ActionListView E H
    → ActionListView E H
with_tree inside tree list =
    let next = length list.scopes + 1 in
    let added = list_of_subtree inside.scope (sources_view inside) tree inside.depth next in
    record {
      actions = list.actions ++ added.actions;
      scopes = list.scopes ++ added.scopes;
    }

-- the scopes, plus that of a node which sets this, inside the scope of this index
abbrev pub with_scope : {E H : Type 0} → Option (SettingView E H) → ℕ → List (ScopeEntry E H)
    → List (ScopeEntry E H)
with_scope None outer scopes = scopes
with_scope (Some says) outer scopes = scopes ++ (says, outer) ∷ []

-- the actions, plus the one that opens what a node opens
abbrev pub openings : {E : Type 0} → RowOpening → List (ActionOf E ℕ) → List (ActionOf E ℕ)
openings opens_nothing actions = actions
openings (opens_input bytes) actions = actions ++ action.input ∷ []
openings (opens_read path) actions = actions ++ action.open_read path ∷ []
openings (opens_create path) actions = actions ++ action.create path ∷ []
openings (opens_capture which) actions = actions ++ action.capture which ∷ []

-- the actions, plus those of an opening that come after those of the inner expression
abbrev pub closings : {E : Type 0} → RowOpening → List (ActionOf E ℕ) → List (ActionOf E ℕ)
closings opens_nothing actions = actions
closings (opens_input bytes) actions = actions ++ (action.close ∷ action.feed bytes ∷ [])
closings (opens_read path) actions = actions ++ action.close ∷ []
closings (opens_create path) actions = actions ++ action.close ∷ []
closings (opens_capture which) actions = actions

-- the list, plus the actions of a modifier that come after those of the inner expression
abbrev pub with_ending : {E H : Type 0} → ModifierView E H → ActionListView E H → ActionListView E H
with_ending modifier list = record list { actions = closings (row modifier).opens list.actions }

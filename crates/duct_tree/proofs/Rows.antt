-- Entering and leaving a node by its row gives the list of that node.
use Rattle.std.proofs.Common.{◌≡◌, ℕ, ◌+◌, List, [], ◌∷◌, ◌++◌, length, refl, ap, subst, ◌∙◌, append_assoc, arith, length-append, Some, None, Option}
use Rattle.duct_run.specs.Actions.{ActionOf}
use Rattle.duct_run.specs.Flat.{depth_inside, sources_inside, actions_around}
use Rattle.duct_run.specs.ActionList.{ActionListView, ScopeEntry, list_of_subtree, next_index, scope_index, with_scope_entry}
use Rattle.duct_start.specs.Row.{RowOpening, Row, SettingView, opens_nothing, opens_input, opens_read, opens_create, opens_capture, row}
use Rattle.duct_start.specs.TreeView.{ModifierView, TreeView, around}
use Rattle.duct_tree.specs.ActionListView.{sources_view, closings, openings, with_ending, with_scope, with_tree}
use Rattle.duct_tree.specs.declared.compile.context.NodeContext.{NodeContext}

module _ {E : Type 0} where
  -- the actions around those of the inner expression
  wrapped_over : (opens : RowOpening) (old inside : List (ActionOf E ℕ))
      → closings opens (openings opens old ++ inside) ≡ old ++ actions_around opens inside
  wrapped_over opens_nothing old inside = refl
  wrapped_over (opens_input bytes) old inside = simp append_assoc
  wrapped_over (opens_read path) old inside = simp append_assoc
  wrapped_over (opens_create path) old inside = simp append_assoc
  wrapped_over (opens_capture which) old inside = simp append_assoc

module _ {E H : Type 0} where
  -- the scope of a node, before those of its inner expression
  scopes_over : (says : Option (SettingView E H)) (i : ℕ) (old inside : List (ScopeEntry E H))
      → with_scope says i old ++ inside ≡ old ++ with_scope_entry says i inside
  scopes_over None i old inside = refl
  scopes_over (Some said) i old inside = simp append_assoc

  next_over : (says : Option (SettingView E H)) (i : ℕ) (old : List (ScopeEntry E H))
      → length (with_scope says i old) + 1 ≡ next_index says (length old + 1)
  next_over None i old = refl
  next_over (Some said) i old = omega (arith, length-append old ((said, i) ∷ []))

  -- a node of this row was entered
  pub record Enters (r : Row E H) (inside within : NodeContext E) (old new : ActionListView E H) : Type 0 where
    pub actions_are : new.actions ≡ openings r.opens old.actions
    pub scopes_are : new.scopes ≡ with_scope r.says inside.scope old.scopes
    pub scope_is : within.scope ≡ scope_index r.says inside.scope (length old.scopes + 1)
    pub wires_are : sources_view within ≡ sources_inside r inside.depth (sources_view inside)
    pub depth_is : within.depth ≡ depth_inside r.opens inside.depth

  entered_row : (modifier : ModifierView E H) (inside within : NodeContext E) (old new : ActionListView E H)
      → Enters (row modifier) inside within old new → (tree : TreeView E H)
      → with_ending modifier (with_tree within tree new)
      ≡ with_tree inside (around modifier tree) old
  entered_row modifier inside within old new enters tree =
      let r = row modifier in
      let next = length old.scopes + 1 in
      let added = list_of_subtree {E = E} {H = H} (scope_index r.says inside.scope next) (sources_inside r inside.depth (sources_view inside)) tree (depth_inside r.opens inside.depth) (next_index r.says next) in
      let same : list_of_subtree {E = E} {H = H} within.scope (sources_view within) tree within.depth (length new.scopes + 1) ≡ added =
      λ j. list_of_subtree {E = E} {H = H} (enters.scope_is j) (enters.wires_are j) tree (enters.depth_is j) ((ap (λ (s : List (ScopeEntry E H)). length s + 1) enters.scopes_are ∙ next_over r.says inside.scope old.scopes) j) in
      let front = (λ j. closings r.opens (enters.actions_are j ++ (same j).actions)) ∙ wrapped_over r.opens old.actions added.actions in
      let back = (λ j. enters.scopes_are j ++ (same j).scopes) ∙ scopes_over r.says inside.scope old.scopes added.scopes in
      λ j. record { actions = front j; scopes = back j }

  -- the node that has this row was entered
  pub entered : (r : Row E H) (modifier : ModifierView E H) (inside within : NodeContext E)
      (old new : ActionListView E H) → r ≡ row modifier → Enters r inside within old new
      → (tree : TreeView E H)
      → with_ending modifier (with_tree within tree new)
      ≡ with_tree inside (around modifier tree) old
  entered r modifier inside within old new is enters =
      entered_row modifier inside within old new (subst (λ (r : Row E H). Enters r inside within old new) is enters)

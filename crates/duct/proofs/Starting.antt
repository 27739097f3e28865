-- The list that a start runs is that of its tree.
use Rattle.std.proofs.Common.{◌≡◌, ℕ, List, ◌∷◌, [], ◌∙◌, ap, length, subst, sym, is_some, All}
use Rattle.std.proofs.lemmas.List.{length-map}
use Rattle.duct_system.specs.declared.system.Side.{Side}
use Rattle.duct_run.specs.Actions.{ActionOf, captures_in}
use Rattle.duct_start.specs.Plan.{capture_place, initial_plan, plan_of_subtree}
use Rattle.duct_run.specs.Flat.{actions_of, root_scope}
use Rattle.duct_run.specs.ActionList.{AreOutwards, IsWithin, ScopeEntry, list_of, resolved_all, scopes_from}
use Rattle.duct_start.specs.TreeView.{TreeView}
use Rattle.duct_run.proofs.Counted.{list_captures}
use Rattle.duct_run.proofs.ListedOutwards.{listed_outwards}
use Rattle.duct_run.proofs.Resolved.{list_resolves}
use Rattle.duct_run.proofs.Within.{listed_within}
use Rattle.duct_run.specs.ActionView.{actions_view, all_scopes, scopes_view}
use Rattle.duct_run.specs.declared.action.Action.{Action}
use Rattle.duct_run.specs.declared.scope.Scope as declared

-- these scopes and actions are the lists that were made for this tree
module _ {E H : Type 0} (tree : TreeView E H) {scopes listed : List (declared.Scope E H)} {actions made : List (Action E)}
    (scopes_is : scopes ≡ listed) (actions_is : actions ≡ made)
    (list_is : record { actions = actions_view made; scopes = scopes_view listed } ≡ list_of tree) where
  scopes_are : scopes_view scopes ≡ (list_of tree).scopes
  scopes_are = ap (λ l. scopes_view l) scopes_is ∙ ap (λ l. l.scopes) list_is

  actions_are : actions_view actions ≡ (list_of tree).actions
  actions_are = ap (λ l. actions_view l) actions_is ∙ ap (λ l. l.actions) list_is

  pub runs_flat : resolved_all (all_scopes scopes) (actions_view actions) ≡ actions_of tree
  runs_flat = (λ i. resolved_all (scopes_from (root_scope ∷ []) (scopes_are i)) (actions_are i)) ∙ list_resolves tree

  pub outwards : AreOutwards (scopes_view scopes)
  outwards = subst (λ (l : List (ScopeEntry E H)). AreOutwards l) (sym scopes_are) (listed_outwards tree)

  pub within : All (IsWithin (length scopes)) (actions_view actions)
  within =
      let count : length (list_of tree).scopes ≡ length scopes = sym (sym (length-map scopes _) ∙ ap (λ (l : List (ScopeEntry E H)). length l) scopes_are) in
      subst (λ (n : ℕ). All (IsWithin n) (actions_view actions)) count (subst (λ (l : List (ActionOf E ℕ)). All (IsWithin (length (list_of tree).scopes)) l) (sym actions_are) (listed_within tree))

-- its tree determines whether a list opens a capture pipe
pub captured : {E H : Type 0} (tree : TreeView E H) (actions : List (Action E))
    → actions_view actions ≡ (list_of tree).actions → (which : Side)
    → captures_in which (actions_view actions)
    ≡ is_some (capture_place which (plan_of_subtree [] tree initial_plan))
captured tree actions actions_are which =
    ap (λ (l : List (ActionOf _ ℕ)). captures_in which l) actions_are ∙ sym (list_captures which tree)

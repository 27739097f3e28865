-- A tree only adds to the end of a plan, and the request that a node makes before its inner
-- expression stays in the plan, whatever an inner node overrides.
use Rattle.std.proofs.Common.{◌≡◌, ℕ, List, [], ◌∷◌, ◌++◌, length, refl, ap, sym, ◌∙◌, append_assoc, Some, None, is_some, if◌then◌else◌, Option}
use Rattle.std.proofs.lemmas.List.{append-nil}
use Rattle.duct_status.specs.PerSide.{at_side}
use Rattle.duct_start.specs.Lookup.{surroundings_on, Path, left_of, right_of, within}
use Rattle.duct_start.specs.Plan.{Plan, with_item, with_opening, place_for, plan_of_subtree}
use Rattle.duct_start.specs.Step.{Item, Opening, OpensNothing, Opens, Captures, AskPipe, step}
use Rattle.duct_start.specs.TreeView.{TreeView, command, pipe, around}
use Rattle.duct_start.proofs.Commanded.{items_of, commanded_is}
use Rattle.duct_laws.specs.Laws.{OverriddenStillOpens}

-- the second list of items is the first with more at its end
abbrev GoesOn : {E H : Type 0} → List (Item E H) → List (Item E H) → Type 0
GoesOn {E} {H} items all = (more : List (Item E H)) × (all ≡ items ++ more)

module _ {E H : Type 0} where
  goes_on : (one two three : List (Item E H)) → GoesOn one two → GoesOn two three
      → GoesOn one three
  goes_on one two three a b =
      (a.0 ++ b.0, b.1 ∙ ap (λ items. items ++ b.0) a.1 ∙ append_assoc one a.0 b.0)

  same_on : (items : List (Item E H)) → GoesOn items items
  same_on items = ([], sym (append-nil items))

  captures_on : (place : Option ℕ) (plan other : Plan E H) → GoesOn plan.items other.items
      → GoesOn plan.items (if is_some place then plan else other).items
  captures_on None plan other on = on
  captures_on (Some p) plan other on = same_on plan.items

  opened_on : (opening : Opening E H) (plan : Plan E H)
      → GoesOn plan.items (with_opening opening plan).items
  opened_on OpensNothing plan = same_on plan.items
  opened_on (Opens item) plan = (item ∷ [], refl)
  opened_on (Captures which) plan = captures_on (at_side plan.pipes which) plan _ (AskPipe ∷ [], refl)

  -- a tree only adds to the end of a plan
  planned_on : (tree : TreeView E H) (up : Path E H) (plan : Plan E H)
      → (more : List (Item E H)) × ((plan_of_subtree up tree plan).items ≡ plan.items ++ more)
  planned_on (command words) up plan =
      (items_of (surroundings_on up) words, ap (λ (p : Plan E H). p.items) (commanded_is (surroundings_on up) words plan))
  planned_on (pipe left right) up plan =
      let place = length plan.items in
      let begun = with_item AskPipe plan in
      let first = plan_of_subtree (left_of place ∷ up) left begun in
      goes_on plan.items first.items _
      (goes_on plan.items begun.items first.items (AskPipe ∷ [], refl) (planned_on left (left_of place ∷ up) begun))
      (planned_on right (right_of place ∷ up) first)
  planned_on (around modifier inner) up plan =
      let opening = (step modifier).opening in
      let place = place_for opening plan in
      let begun = with_opening opening plan in
      let inside = plan_of_subtree (within place modifier ∷ up) inner begun in
      goes_on plan.items inside.items _
      (goes_on plan.items begun.items inside.items (opened_on opening plan) (planned_on inner (within place modifier ∷ up) begun))
      ((step modifier).closing place, refl)

-- the item that a node adds before its inner expression is in the plan, even if an inner node
-- overrides what the node sets
pub still_opens : (E H : Type 0) → OverriddenStillOpens E H
still_opens E H modifier item is inner up plan =
    let opening = (step modifier).opening in
    let place = place_for opening plan in
    let inside = planned_on inner (within place modifier ∷ up) (with_opening opening plan) in
    let closing = (step modifier).closing place in (
      inside.0 ++ closing,
      ap (λ items. items ++ closing) (inside.1 ∙ ap (λ start. (with_opening start plan).items ++ inside.0) is ∙ append_assoc plan.items (item ∷ []) inside.0)
          ∙ append_assoc plan.items (item ∷ inside.0) closing,
    )

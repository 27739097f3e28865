-- A plan that grows keeps the places of its open capture pipes.
use Rattle.std.proofs.Common.{◌≡◌, ℕ, List, length, refl, ap, ◌∙◌, Bool, true, false, Some, None, is_some, if◌then◌else◌, unwrap_or, Option}
use Rattle.duct_run.proofs.Common.{Side, at_side, with_side, Surroundings, Plan, with_item, with_capture, with_opening, place_for, program_of, is_canonical, Opening, OpensNothing, Opens, Captures, AskPipe, AskCanonicalize, left_step, right_step, step, TreeView, command, pipe, around}
use Rattle.duct_system.specs.declared.system.Side.TheVariants.{Out, Err}
use Rattle.duct_run.proofs.PlanInward.{surroundings_within, plan_inward}

-- each capture pipe that was open keeps its place
pub record Keeps {E H : Type 0} (plan next : Plan E H) : Type 0 where
  pub pipes : (which : Side) (place : ℕ) → at_side plan.pipes which ≡ Some place
      → at_side next.pipes which ≡ Some place

module _ {E H : Type 0} where
  pub keeps_same : (plan next : Plan E H) → next.pipes ≡ plan.pipes → Keeps plan next
  keeps_same plan next same = record { pipes = λ which place is. ap (λ p. at_side p which) same ∙ is }

  pub keeps_canonical : (b : Bool) (path : List ℕ) (plan : Plan E H)
      → Keeps plan (if b then with_item (AskCanonicalize path) plan else plan)
  keeps_canonical true path plan = keeps_same plan _ refl
  keeps_canonical false path plan = keeps_same plan _ refl

  captured_keeps : (side : Side) (o : Option ℕ) (plan : Plan E H) → at_side plan.pipes side ≡ o
      → (which : Side) (place : ℕ) → at_side plan.pipes which ≡ Some place
      → at_side (if is_some o then plan else record (with_item AskPipe plan) { pipes = with_side plan.pipes side (Some (length plan.items)) }).pipes which
      ≡ Some place
  captured_keeps side (Some p) plan shut which place is = is
  captured_keeps Out None plan shut Out place is = cc
  captured_keeps Out None plan shut Err place is = is
  captured_keeps Err None plan shut Out place is = is
  captured_keeps Err None plan shut Err place is = cc

  pub keeps_capture : (side : Side) (plan : Plan E H) → Keeps plan (with_capture side plan)
  keeps_capture side plan = record { pipes = captured_keeps side (at_side plan.pipes side) plan refl }

  captured_opens : (side : Side) (o : Option ℕ) (plan : Plan E H) → at_side plan.pipes side ≡ o
      → at_side (if is_some o then plan else record (with_item AskPipe plan) { pipes = with_side plan.pipes side (Some (length plan.items)) }).pipes side
      ≡ Some (unwrap_or o (length plan.items))
  captured_opens side (Some p) plan is = is
  captured_opens Out None plan is = refl
  captured_opens Err None plan is = refl

  -- a capture pipe is open after a node that captures
  pub capture_opens : (side : Side) (plan : Plan E H)
      → at_side (with_capture side plan).pipes side
      ≡ Some (unwrap_or (at_side plan.pipes side) (length plan.items))
  capture_opens side plan = captured_opens side (at_side plan.pipes side) plan refl

  opening_keeps : (opening : Opening E H) (plan : Plan E H) → Keeps plan (with_opening opening plan)
  opening_keeps OpensNothing plan = keeps_same plan plan refl
  opening_keeps (Opens item) plan = keeps_same plan _ refl
  opening_keeps (Captures which) plan = keeps_capture which plan

  -- a tree keeps the open capture pipes
  pub keeps : (tree : TreeView E H) (found : Surroundings E H) (plan : Plan E H)
      → Keeps plan (plan_inward found tree plan)
  keeps (command words) found plan =
      record { pipes = (keeps_canonical (is_canonical found words) (program_of words) plan).pipes }
  keeps (pipe left right) found plan =
      let place = length plan.items in
      let first = plan_inward (surroundings_within left_step place found) left (with_item AskPipe plan) in
      let a = keeps left (surroundings_within left_step place found) (with_item AskPipe plan) in
      let b = keeps right (surroundings_within right_step place found) first in
      record { pipes = λ which p is. b.pipes which p (a.pipes which p is) }
  keeps (around modifier inner) found plan =
      let opening = (step modifier).opening in
      let place = place_for opening plan in
      let a = opening_keeps opening plan in
      let b = keeps inner (surroundings_within (step modifier) place found) (with_opening opening plan) in
      record { pipes = λ which p is. b.pipes which p (a.pipes which p is) }

-- What a node comes to, by what is found inside it.
use Rattle.std.proofs.Common.{◌≡◌, ℕ, length}
use Rattle.std.proofs.lemmas.List.{append-nil}
use Rattle.duct_start.specs.Plan.{Plan, place_for, with_closing, with_item, with_opening}
use Rattle.duct_start.specs.Row.{Row, row}
use Rattle.duct_start.specs.Step.{AskPipe, closing_of, opening_of, step_of_row}
use Rattle.duct_start.specs.Surroundings.{Surroundings, ReaderAt, WriterAt}
use Rattle.duct_start.specs.TreeView.{ModifierView, TreeView, around, pipe}
use Rattle.duct_run.proofs.PlanInward.{plan_inward, surroundings_within}

module _ {E H : Type 0} where
  -- a side of a pipe sets no hooks
  pub pipe_inside : (left right : TreeView E H) (place : ℕ) (found reading writing : Surroundings E H)
      (plan after : Plan E H)
      → reading ≡ record found { input = ReaderAt place }
      → writing ≡ record found { output = WriterAt place }
      → place ≡ length plan.items → after ≡ with_item AskPipe plan
      → plan_inward reading right (plan_inward writing left after)
      ≡ plan_inward found (pipe left right) plan
  pipe_inside left right place found reading writing plan after in_right in_left place_is after_is =
      rw (after_is, in_right, in_left, place_is, append-nil found.hooks)

  pub around_inside : (modifier : ModifierView E H) (inner : TreeView E H) (place : ℕ)
      (found within : Surroundings E H) (plan after : Plan E H) (node : Row E H)
      → node ≡ row modifier
      → within ≡ surroundings_within (step_of_row node) place found
      → place ≡ place_for {E = E} {H = H} (opening_of node.opens) plan
      → after ≡ with_opening (opening_of node.opens) plan
      → with_closing (closing_of node.opens place) (plan_inward within inner after)
      ≡ plan_inward found (around modifier inner) plan
  around_inside modifier inner place found within plan after node node_is in_inner place_is after_is =
      rw (after_is, in_inner, place_is, node_is)

-- The plan computed inwards is the plan that is looked up on the paths to the root.
use Rattle.std.proofs.Common.{◌≡◌, ◌∷◌, length, refl, ap, ◌∙◌}
use Rattle.duct_run.proofs.Common.{In, target_of, stream_goes, resolved_turn, surroundings_on, Path, PathSegment, left_of, right_of, within, segment_place, step_of, Plan, with_item, with_opening, place_for, with_closing, plan_of_subtree, Turn, Decides, DefersTo, AskPipe, step, TreeView, command, pipe, around}
use Rattle.duct_system.specs.declared.spec.Stream.TheVariants.{Out, Err}
use Rattle.duct_run.proofs.PlanInward.{surroundings_within, plan_inward}

turned_same : {E H : Type 0} (turn : Turn E) (up : Path E H)
    → resolved_turn turn (λ outer. stream_goes up outer) ≡ resolved_turn turn (target_of (surroundings_on up))
turned_same (Decides target) up = refl
turned_same (DefersTo In) up = refl
turned_same (DefersTo Out) up = refl
turned_same (DefersTo Err) up = refl

-- what is found one node further inside
found_more : {E H : Type 0} (segment : PathSegment E H) (up : Path E H)
    → surroundings_on (segment ∷ up) ≡ surroundings_within (step_of segment) (segment_place segment) (surroundings_on up)
found_more segment up =
    let turn = (step_of segment).turn (segment_place segment) in
    λ i. record {
      folder = (surroundings_on (segment ∷ up)).folder;
      changes = (surroundings_on (segment ∷ up)).changes;
      input = turned_same (turn In) up i;
      output = turned_same (turn Out) up i;
      error = turned_same (turn Err) up i;
      hooks = (surroundings_on (segment ∷ up)).hooks;
    }

-- the plan computed inwards is the plan
pub joined : {E H : Type 0} (tree : TreeView E H) (up : Path E H) (plan : Plan E H)
    → plan_of_subtree up tree plan ≡ plan_inward (surroundings_on up) tree plan
joined (command words) up plan = refl
joined (pipe left right) up plan =
    let place = length plan.items in
    let first = joined left (left_of place ∷ up) (with_item AskPipe plan) ∙ ap (λ found. plan_inward found left (with_item AskPipe plan)) (found_more (left_of place) up) in
    joined right (right_of place ∷ up) _
    ∙ (λ i. plan_inward (found_more (right_of place) up i) right (first i))
joined (around modifier inner) up plan =
    let place = place_for (step modifier).opening plan in
    let before = with_opening (step modifier).opening plan in
    ap (with_closing ((step modifier).closing place))
    (joined inner (within place modifier ∷ up) before ∙ ap (λ found. plan_inward found inner before) (found_more (within place modifier) up))

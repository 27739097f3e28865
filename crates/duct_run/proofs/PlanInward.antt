-- The plan computed inwards: the surroundings are passed down from the root to each command.
use Rattle.std.specs.Prelude.{ℕ, ◌++◌, length}
use Rattle.duct_run.proofs.Common.{option_or, In, Surroundings, target_of, resolved_turn, Plan, with_item, with_opening, place_for, with_closing, with_command, NodeStep, AskPipe, left_step, right_step, step, TreeView, command, pipe, around}
use Rattle.duct_system.specs.declared.spec.Stream.TheVariants.{Out, Err}

-- the surroundings inside a node at this place, by those around it
abbrev pub surroundings_within : {E H : Type 0} → NodeStep E H → ℕ → Surroundings E H
    → Surroundings E H
surroundings_within node place found = record {
  folder = option_or node.folder found.folder;
  changes = node.changes ++ found.changes;
  input = resolved_turn (node.turn place In) (target_of found);
  output = resolved_turn (node.turn place Out) (target_of found);
  error = resolved_turn (node.turn place Err) (target_of found);
  hooks = found.hooks ++ node.hooks;
}

-- the plan after a tree with these surroundings
abbrev pub plan_inward : {E H : Type 0} → Surroundings E H → TreeView E H → Plan E H → Plan E H
plan_inward found (command words) plan = with_command found words plan
plan_inward found (pipe left right) plan =
    let place = length plan.items in
    plan_inward (surroundings_within right_step place found) right
    (plan_inward (surroundings_within left_step place found) left (with_item AskPipe plan))
plan_inward found (around modifier inner) plan =
    let place = place_for (step modifier).opening plan in
    with_closing ((step modifier).closing place)
    (plan_inward (surroundings_within (step modifier) place found) inner
    (with_opening (step modifier).opening plan))

-- The tasks that are left for the plan of a tree.
use Rattle.std.specs.Prelude.{ℕ, List, [], ◌∷◌, ◌+◌}
use Rattle.duct_run.proofs.PlanInward.{plan_inward}
use Rattle.duct_start.specs.Plan.{Plan, with_closing}
use Rattle.duct_start.specs.Step.{closing_of}
use Rattle.duct_start.specs.TreeView.{TreeView, command, pipe, around}
use Rattle.duct_tree.specs.EffectView.{opening_view}
use Rattle.duct_tree.specs.NodeView.{node_view}
use Rattle.duct_plan.specs.PlanView.{found_of}
use Rattle.duct_plan.specs.declared.requests.Task.{Task}
use Rattle.duct_plan.specs.declared.requests.Task.TheVariants.{Visit, Close}

-- the plan after one task
abbrev pub after_task : {E H : Type 0} → Task E H → Plan E H → Plan E H
after_task (Visit found node) plan = plan_inward (found_of found) (node_view node.now) plan
after_task (Close opening place) plan = with_closing (closing_of (opening_view opening) place) plan

-- the plan after all tasks, of which the last is done first
abbrev pub after_tasks : {E H : Type 0} → List (Task E H) → Plan E H → Plan E H
after_tasks [] plan = plan
after_tasks (task ∷ tasks) plan = after_task task (after_tasks tasks plan)

-- the most tasks that a tree comes to
abbrev pub tasks_of_tree : {E H : Type 0} → TreeView E H → ℕ
tasks_of_tree (command words) = 1
tasks_of_tree (pipe left right) = 1 + tasks_of_tree left + tasks_of_tree right
tasks_of_tree (around modifier inner) = 2 + tasks_of_tree inner

-- the most tasks that a task comes to, and that all of these do
abbrev pub tasks_of : {E H : Type 0} → Task E H → ℕ
tasks_of (Visit found node) = tasks_of_tree (node_view node.now)
tasks_of (Close opening place) = 1

abbrev pub tasks_left : {E H : Type 0} → List (Task E H) → ℕ
tasks_left [] = 0
tasks_left (task ∷ tasks) = tasks_of task + tasks_left tasks

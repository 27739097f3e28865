-- The plan so far, with the tasks that are left, is the plan of the tree.
use Rattle.std.proofs.Common.{◌≡◌}
use Rattle.duct_plan.specs.Inside.{after_tasks, tasks_left}
use Rattle.duct_plan.specs.PlanView.{plan_view}
use Rattle.duct_plan.proofs.items.Plan.add_tree.Given as goal

abbrev pub invariant-loop-task : goal.invariant-loop-task
invariant-loop-task g l =
    after_tasks l.tasks.items (plan_view l.self)
    ≡ after_tasks l.initial.tasks.items (plan_view l.initial.self)

abbrev pub decreases-loop-task : goal.decreases-loop-task
decreases-loop-task g l = tasks_left l.tasks.items

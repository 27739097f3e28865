-- The plan from the root inwards, and the tasks that are left for it.
use Rattle.std.proofs.Common.{◌≡◌, List, [], ◌∷◌, ◌+◌, ◌++◌, ap, arith, refl, sym}
use Rattle.std.proofs.lemmas.List.{append-nil}
use Rattle.duct_start.specs.Plan.{Plan, plan_of_subtree, with_closing}
use Rattle.duct_start.specs.Surroundings.{root_surroundings}
use Rattle.duct_start.specs.TreeView.{TreeView}
use Rattle.duct_run.proofs.Inward.{joined}
use Rattle.duct_run.proofs.PlanInward.{plan_inward}
use Rattle.duct_plan.specs.Inside.{after_task, after_tasks, tasks_left, tasks_of}
use Rattle.duct_plan.specs.declared.requests.Task.{Task}

module _ {E H : Type 0} where
  -- the plan of a tree is the one from the root inwards
  pub whole : (tree : TreeView E H) (plan : Plan E H)
      → plan_inward root_surroundings tree plan ≡ plan_of_subtree [] tree plan
  whole tree plan = sym (joined tree [] plan)

  pub unclosed : (plan : Plan E H) → plan ≡ with_closing [] plan
  unclosed plan = λ i. record { items = sym (append-nil plan.items) i; pipes = plan.pipes }

  -- the last task is done first
  pub after_last : (tasks : List (Task E H)) (task : Task E H) (plan : Plan E H)
      → after_tasks (tasks ++ task ∷ []) plan ≡ after_tasks tasks (after_task task plan)
  after_last [] task plan = refl
  after_last (first ∷ tasks) task plan = ap (after_task first) (after_last tasks task plan)

  pub after_two : (tasks one two : List (Task E H)) (below above : Task E H) (plan after : Plan E H)
      → one ≡ tasks ++ below ∷ [] → two ≡ one ++ above ∷ []
      → after_task below (after_task above plan) ≡ after
      → after_tasks two plan ≡ after_tasks tasks after
  after_two tasks one two below above plan after one_is two_is after_is =
      rw (two_is, after_last one above plan, one_is, after_last tasks below, after_is)

  -- one more task is left
  pub left_with : (tasks : List (Task E H)) (task : Task E H)
      → tasks_left (tasks ++ task ∷ []) ≡ tasks_left tasks + tasks_of task
  left_with [] task = omega arith
  left_with (first ∷ tasks) task = omega (arith, left_with tasks task)

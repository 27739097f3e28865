-- The plan of the tree from the root inwards, and then the workers.
use Rattle.std.proofs.Common.{ap, ◌∙◌}
use Rattle.duct_start.specs.Plan.{Plan, initial_plan, with_drain}
use Rattle.duct.specs.TreeView.{tree_view}
use Rattle.duct_run.proofs.PlanInward.{plan_inward}
use Rattle.duct_plan.proofs.Planned.{whole}
use Rattle.duct_plan.proofs.requests.plan.Goals as goal

pub returns : goal.returns
returns g c =
    let tree = tree_view c.args.expression.now in
    let planned =
    (rw c.root.ensures at c.in_ok-add_tree.ensures)
    ∙ (λ i. plan_inward (c.at_root.ensures i) tree (c.in_ok-plan.ensures i)) ∙ whole tree initial_plan in
    c.in_ok-add_drain-2.ensures ∙ ap (with_drain _) c.in_ok-add_drain.ensures
    ∙ ap (λ (p : Plan g.row.E.Denot g.row.H.Denot). with_drain p.pipes.err (with_drain p.pipes.out p)) planned

-- A capture around the whole tree makes no request after the tree's.
use Rattle.std.proofs.Common.{◌≡◌, ap, ◌∙◌}
use Rattle.duct_system.specs.declared.system.Side.TheVariants as side
use Rattle.duct_start.specs.Plan.{Plan, initial_plan, place_for, with_capture, with_drain, with_reader}
use Rattle.duct_start.specs.Step.{Captures}
use Rattle.duct_start.specs.Surroundings.{WriterAt}
use Rattle.duct_start.specs.TreeView.{around, stdout_capture}
use Rattle.duct.specs.TreeView.{tree_view}
use Rattle.duct_run.proofs.PlanInward.{plan_inward}
use Rattle.duct_plan.specs.PlanView.{plan_view}
use Rattle.duct_plan.proofs.Planned.{unclosed, whole}
use Rattle.duct_plan.proofs.requests.plan_of_reader.Goals as goal
use Rattle.duct_plan.proofs.requests.plan_of_reader.Goals.{in-None, in-Some+in_ok-add-in-Some}

pub returns : goal.returns
returns g c =
    let tree = tree_view c.args.expression.now in
    let begun = c.in_ok-plan.ensures in
    let place = c.in_ok-place.ensures.place ∙ ap (place_for (Captures side.Out)) begun in
    let plan = c.in_ok-place.ensures.plan ∙ ap (with_capture side.Out) begun in
    let planned =
    (rw c.root.ensures at c.in_ok-add_tree.ensures)
    ∙ (λ i. plan_inward (record (c.at_root-found.ensures i) { output = WriterAt (place i) }) tree (plan i))
    ∙ unclosed _ ∙ whole (around stdout_capture tree) initial_plan in
    let read : plan_view c.match-out.plan ≡ with_reader c.add_tree.new.self.out (plan_view c.add_drain.new.self) =
    elim c.match-out.branch [ in-None w ↦ rw (w.plan-is, w.in-None.is) | in-Some+in_ok-add-in-Some w ↦ rw (w.plan-is, w.in-Some.is) w.in_ok-add-in-Some.ensures ] in
    read ∙ ap (with_reader _) c.in_ok-add_drain.ensures
    ∙ ap (λ (p : Plan g.row.E.Denot g.row.H.Denot). with_reader p.pipes.out (with_drain p.pipes.err p)) planned

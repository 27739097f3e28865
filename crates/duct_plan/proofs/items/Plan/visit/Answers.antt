-- What a tree comes to next, with the tasks that are left for it, is its plan.
use Rattle.std.proofs.Common.{◌∙◌, arith, refl}
use Rattle.std.proofs.lemmas.List.{length-map}
use Rattle.std.proofs.lemmas.Result.{IfOk-weaker}
use Rattle.duct_tree.specs.EffectView.{effect_view}
use Rattle.duct_tree.specs.NodeView.{modifier_view, node_view}
use Rattle.duct_start.specs.Surroundings.{ReaderAt}
use Rattle.duct_start.specs.TreeView.{around, pipe}
use Rattle.duct_run.proofs.PlanInward.{plan_inward}
use Rattle.duct_plan.specs.PlanView.{found_of, item_of, plan_view}
use Rattle.duct_plan.proofs.Planned.{after_two}
use Rattle.duct_plan.proofs.Visited.{around_inside, pipe_inside}
use Rattle.duct_plan.proofs.items.Plan.visit.Goals as goal

pub returns-in_ok-push-in-Pipe-2-clause-plan : goal.returns-in_ok-push-in-Pipe-2-clause-plan
returns-in_ok-push-in-Pipe-2-clause-plan g c =
    let found = found_of c.args.found in
    let plan = plan_view c.args.self.now in
    let place = c.len-place.result in
    rw c.in-Pipe.is
    (IfOk-weaker c.add-in-Pipe.result _ _
    (λ _ is. after_two _ _ _ _ _ _ _ c.in_ok-push-in-Pipe.ensures.items c.in_ok-push-in-Pipe-2.ensures.items
    (pipe_inside (node_view c.deref-in-Pipe-2.result.now) (node_view c.deref-in-Pipe.result.now) place found _ _ plan _
    (λ i. record (c.in_ok-reading-in-Pipe.ensures i) { input = ReaderAt place }) refl
    (omega (arith, c.len-place.ensures, length-map c.args.self.now.items.items item_of)) is
    ∙ (λ i. plan_inward found (pipe (node_view (c.deref-in-Pipe-2.ensures i)) (node_view (c.deref-in-Pipe.ensures i))) plan)))
    c.add-in-Pipe.ensures)

pub returns-in_ok-push-in-Io-2-clause-plan : goal.returns-in_ok-push-in-Io-2-clause-plan
returns-in_ok-push-in-Io-2-clause-plan g c =
    let found = found_of c.args.found in
    let plan = plan_view c.args.self.now in
    rw c.in-Io.is
    (after_two _ _ _ _ _ _ _ c.in_ok-push-in-Io.ensures.items c.in_ok-push-in-Io-2.ensures.items
    (around_inside (modifier_view c.in-Io.modifier) (node_view c.deref-in-Io.result.now) c.in_ok-place-in-Io.place
    found _ plan _ (effect_view c.effect_of-effect.result) c.effect_of-effect.ensures
    c.in_ok-enter-in-Io.ensures c.in_ok-place-in-Io.ensures.place c.in_ok-place-in-Io.ensures.plan
    ∙ (λ i. plan_inward found (around (modifier_view c.in-Io.modifier) (node_view (c.deref-in-Io.ensures i))) plan)))

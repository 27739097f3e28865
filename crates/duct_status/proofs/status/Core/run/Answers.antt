use Rattle.std.proofs.Common.{◌∙◌, arith}
use Rattle.std.proofs.lemmas.Grind.{common_steps}
use Rattle.duct_status.specs.ShapeView.{shape_view}
use Rattle.duct_status.specs.CoreView.{shape_in, latest_in, standing_in}
use Rattle.duct_status.proofs.Ran.{ran_none, ran_next}
use Rattle.duct_status.proofs.status.Core.run.Goals as goal

pub loop-event-init : goal.loop-event-init
loop-event-init c =
    let made = c.in_ok-core.ensures in
    record {
      shape = made.shape;
      ran = ran_none (shape_view c.args.shape) c.args.drains (latest_in c.in_ok-core.core) (standing_in c.in_ok-core.core) c.new-replies.result.items made.words made.standing c.new-replies.ensures.items;
    }

pub loop-event-preserved : goal.loop-event-preserved
loop-event-preserved c =
    let l = c.loop-event in
    record {
      shape = c.step.ensures.shape ∙ l.invariant.shape;
      ran = rw c.in_ok-push.ensures.items (ran_next (shape_view c.args.shape) (shape_in l.core) c.args.drains (latest_in l.core) (latest_in c.step.new.self) (standing_in l.core) (standing_in c.step.new.self) c.args.events.now l.event-index c.event-item.result l.replies.items c.in_ok-event.event c.step.result c.loop-event-test.true c.event-item.is l.invariant.shape c.in_ok-event.ensures l.invariant.ran c.step.ensures.words c.step.ensures.reply c.step.ensures.repeats c.step.ensures.standing);
    }

pub returns-clause-replies : goal.returns-clause-replies
returns-clause-replies c = grind (arith, common_steps)

pub returns-clause-repeated : goal.returns-clause-repeated
returns-clause-repeated c = grind (arith, common_steps)

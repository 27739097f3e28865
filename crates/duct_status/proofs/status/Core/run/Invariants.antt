use Rattle.std.proofs.Common.{◌≡◌, map, take}
use Rattle.duct_status.specs.EventView.{event_view}
use Rattle.duct_status.specs.ReplyView.{reply_view}
use Rattle.duct_status.specs.ShapeView.{shape_view}
use Rattle.duct_status.specs.CoreView.{shape_in, latest_in, standing_in}
use Rattle.duct_status.proofs.Ran.{Ran}
use Rattle.duct_status.proofs.status.Core.run.Given as goal

abbrev pub invariant-loop-event : goal.invariant-loop-event
invariant-loop-event l = record {
  shape : shape_in l.core ≡ shape_view l.fn.shape;
  ran : Ran (shape_view l.fn.shape) l.fn.drains (latest_in l.core) (standing_in l.core) (map event_view (take l.event-index l.events)) (map reply_view l.replies.items);
}

-- What contracts see of a core: its shape, the latest reports, and the final reply.
use Rattle.std.specs.Arc.{arc_value}
use Rattle.std.specs.declared.option.Option.{Option}
use Rattle.duct_status.specs.declared.status.Core.{Core}
use Rattle.duct_status.specs.Fits.{latest_of, standing_of}
use Rattle.duct_status.specs.ShapeView.{ShapeView, shape_view}
use Rattle.duct_status.specs.ReplyView.{ReplyView}
use Rattle.duct_status.specs.Latest.{Latest}

-- the shape of a core
abbrev pub shape_in : Core → ShapeView
shape_in core = shape_view (arc_value core.shape)

-- the latest reports in a core
abbrev pub latest_in : Core → Latest
latest_in core = latest_of core.commands.items core.inputs.items core.drains

-- the final reply of a core, once there is one: an answer or a failure
abbrev pub standing_in : Core → Option ReplyView
standing_in core = standing_of core.answer core.failure

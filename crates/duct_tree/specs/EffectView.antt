-- What a node does, as contracts see it.
use Rattle.std.specs.Prelude.{Some, None, Option}
use Rattle.std.specs.Arc.{arc_value}
use Rattle.duct_system.specs.declared.system.Side.{Side}
use Rattle.duct_start.specs.Row as row
use Rattle.duct_start.specs.Row.{Row, SettingView}
use Rattle.duct_run.specs.ActionView.{setting_view}
use Rattle.duct_run.specs.declared.scope.Setting.{Setting}
use Rattle.duct_tree.specs.declared.effect.Effect.{Effect}
use Rattle.duct_tree.specs.declared.effect.Mark.{Mark}
use Rattle.duct_tree.specs.declared.effect.Mark.TheVariants as mark
use Rattle.duct_tree.specs.declared.effect.Opening.{Opening}
use Rattle.duct_tree.specs.declared.effect.Opening.TheVariants as opening
use Rattle.duct_tree.specs.declared.effect.InputRoute.{InputRoute}
use Rattle.duct_tree.specs.declared.effect.InputRoute.TheVariants as input_route
use Rattle.duct_tree.specs.declared.effect.OutputRoute.{OutputRoute}
use Rattle.duct_tree.specs.declared.effect.OutputRoute.TheVariants as output_route

-- what a node opens
abbrev pub opening_view : Opening → row.RowOpening
opening_view opening.Nothing = row.opens_nothing
opening_view (opening.Input bytes) = row.opens_input (arc_value bytes.now).items
opening_view (opening.Read path) = row.opens_read path.now
opening_view (opening.Create path) = row.opens_create path.now
opening_view (opening.Capture which) = row.opens_capture which

-- where stdin goes
abbrev pub input_route_view : {E : Type 0} → InputRoute E → row.Route (Unit {0}) E
input_route_view input_route.Outside = row.as_outside tt
input_route_view input_route.Nothing = row.to_nothing
input_route_view (input_route.Lent end) = row.to_lent end.now
input_route_view input_route.Opened = row.to_opened

-- where stdout or stderr goes
abbrev pub output_route_view : {E : Type 0} → OutputRoute E → row.Route Side E
output_route_view (output_route.Outside side) = row.as_outside side
output_route_view output_route.Nothing = row.to_nothing
output_route_view (output_route.Lent end) = row.to_lent end.now
output_route_view output_route.Opened = row.to_opened

-- what a node sets, if anything: the folder, a change of the variables, or a hook
abbrev pub says_view : {E H : Type 0} → Option (Setting E H) → Option (SettingView E H)
says_view None = None
says_view (Some setting) = Some (setting_view setting)

-- what the shape shows of a node
abbrev pub mark_view : Mark → row.Mark
mark_view mark.Plain = row.is_plain
mark_view mark.Input = row.is_input
mark_view mark.Unchecked = row.is_unchecked

-- the row of a node: what it does
abbrev pub effect_view : {E H : Type 0} → Effect E H → Row E H
effect_view effect = record {
  opens = opening_view effect.opening;
  input = input_route_view effect.input;
  output = output_route_view effect.output;
  error = output_route_view effect.error;
  says = says_view effect.setting;
  mark = mark_view effect.mark;
}

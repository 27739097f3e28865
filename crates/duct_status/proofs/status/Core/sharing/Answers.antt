use Rattle.std.specs.Arc.{arc_value}
use Rattle.std.specs.Option.{option_map}
use Rattle.duct_status.specs.EventView.{bytes_said}
use Rattle.duct_status.specs.ShapeView.{shape_view}
use Rattle.duct_status.proofs.Begins.{first_words}
use Rattle.duct_status.proofs.status.Core.sharing.Goals as goal

pub returns-clause-words : goal.returns-clause-words
returns-clause-words c =
    let shape = shape_view (arc_value c.args.shape) in
    first_words shape c.args.drains c.begin.new.commands.items c.begin.new.inputs.items (option_map bytes_said c.first_word.result) (option_map bytes_said c.first_word-2.result)
    (rw (c.new-commands.ensures.items, c.deref.ensures) at c.in_ok-begin.ensures.commands) (rw (c.new-inputs.ensures.items, c.deref.ensures) at c.in_ok-begin.ensures.inputs) c.first_word.ensures c.first_word-2.ensures

-- An event as contracts see it: a report of a command or a worker, with captured bytes as a list,
-- or the question how the expression has ended.
use Rattle.std.specs.Prelude.{ℕ, List, Vec}
use Rattle.std.specs.declared.alloc.Global.{Global}
use Rattle.std.specs.declared.sync.Arc.{Arc}
use Rattle.std.specs.Arc.{arc_value}
use Rattle.duct_system.specs.declared.system.Said.{Said}
use Rattle.duct_system.specs.declared.system.Said.TheVariants as said
use Rattle.duct_system.specs.declared.system.Side.{Side}
use Rattle.duct_status.specs.declared.status.Word.{Word}
use Rattle.duct_status.specs.declared.status.Event.{Event}
use Rattle.duct_status.specs.declared.status.Event.TheVariants as event

-- a report of a command or an input worker, by its number, of a capture worker, by its stream, or
-- the question
pub data EventView : Type 0 where
  from_command : ℕ → Word → EventView
  from_input : ℕ → Said (Unit {0}) → EventView
  from_drain : Side → Said (List ℕ) → EventView
  conclude : EventView

-- what a capture worker reported, with the bytes themselves
abbrev pub bytes_said : Said (Arc (Vec ℕ Global) Global) → Said (List ℕ)
bytes_said said.Running = said.Running
bytes_said (said.Done bytes) = said.Done (arc_value bytes).items
bytes_said (said.Fault fault) = said.Fault fault

-- what contracts see of an event
abbrev pub event_view : Event → EventView
event_view (event.Command k word) = from_command k word
event_view (event.Input i heard) = from_input i heard
event_view (event.Drain side heard) = from_drain side (bytes_said heard)
event_view event.Conclude = conclude

-- The final reply that a core stores still fits its reports after an event.
use Rattle.std.proofs.Common.{◌≡◌, ℕ, List, ap, arith, Option, Vec, Global}
use Rattle.std.specs.Arc.{arc_value}
use Rattle.std.specs.Option.{ForSome, option_map}
use Rattle.std.specs.declared.sync.Arc.{Arc}
use Rattle.duct_system.specs.Job.{kept_after}
use Rattle.duct_system.specs.declared.system.Said.{Said}
use Rattle.duct_system.specs.declared.system.Side.{Side}
use Rattle.duct_system.specs.declared.system.Side.TheVariants.{Out, Err}
use Rattle.duct_status.specs.declared.status.Core.{Core}
use Rattle.duct_status.specs.Fits.{FitsAnswer, FitsMessage, latest_of}
use Rattle.duct_status.specs.EventView.{EventView, bytes_said, from_drain}
use Rattle.duct_status.specs.CoreView.{shape_in, latest_in}
use Rattle.duct_status.specs.Latest.{Latest, latest_after}
use Rattle.duct_status.specs.PerSide.{at_side, with_side}
use Rattle.duct_status.proofs.Settled.{Fit, answer_stays, message_stays}

pub core_fit : (core : Core) → Fit (shape_in core) (latest_in core)
core_fit core = record {
  commands = omega (arith, core.commands.ok.0, core.commands_fit);
  inputs = omega (arith, core.inputs.ok.0, core.inputs_fit);
}

pub answer_after : (core : Core) (now : Latest) (event : EventView)
    → now ≡ latest_after (latest_in core) event
    → ForSome core.answer (λ a. FitsAnswer (shape_in core) now (arc_value a))
answer_after core now event same = answer_stays (shape_in core) (latest_in core) now event core.answer same (core_fit core) core.answer_fits

pub failure_after : (core : Core) (now : Latest) (event : EventView)
    → now ≡ latest_after (latest_in core) event
    → ForSome core.failure (λ a. FitsMessage (shape_in core) now (arc_value a))
failure_after core now event same = message_stays (shape_in core) (latest_in core) now event core.failure same (core_fit core) core.failure_fits

-- a capture worker's report changes the word of its stream
pub drain_after : (core : Core) (side : Side) (heard : Said (List ℕ))
    (before now : Option (Said (Arc (Vec ℕ Global) Global))) → before ≡ at_side core.drains side
    → option_map bytes_said now ≡ option_map (λ old. kept_after old heard) (option_map bytes_said before)
    → latest_of core.commands.items core.inputs.items (with_side core.drains side now)
    ≡ latest_after (latest_in core) (from_drain side heard)
drain_after core Out heard before now is kept = ap (λ (x : Option (Said (List ℕ))). record (latest_in core) { drains = record (latest_in core).drains { out = x } }) (rw is at kept)
drain_after core Err heard before now is kept = ap (λ (x : Option (Said (List ℕ))). record (latest_in core) { drains = record (latest_in core).drains { err = x } }) (rw is at kept)

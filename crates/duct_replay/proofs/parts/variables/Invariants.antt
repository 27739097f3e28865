-- What was read so far, followed by what is read of the rest, is what is read of all.
use Rattle.std.proofs.Common.{◌≡◌, map, length}
use Rattle.serde_json.specs.View.{view}
use Rattle.duct_system.specs.SpecView.{pair_text}
use Rattle.duct_replay.specs.Lines.{all_meant, variable_meant}
use Rattle.duct_replay.proofs.Reading.{behind}
use Rattle.duct_replay.proofs.parts.variables.Given as goal

abbrev pub invariant-loop-value : goal.invariant-loop-value
invariant-loop-value l =
    behind (map pair_text l.pairs.items) (all_meant variable_meant (map view l.rest)) ≡ all_meant variable_meant (map view l.initial.rest)

abbrev pub decreases-loop-value : goal.decreases-loop-value
decreases-loop-value l = length l.rest

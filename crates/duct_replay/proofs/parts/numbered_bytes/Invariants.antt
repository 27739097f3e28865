-- What was read so far, followed by what is read of the rest, is what is read of all.
use Rattle.std.proofs.Common.{◌≡◌, map, length}
use Rattle.serde_json.specs.View.{view}
use Rattle.duct_replay.specs.Lines.{all_meant, byte_meant}
use Rattle.duct_replay.proofs.Reading.{behind}
use Rattle.duct_replay.proofs.parts.numbered_bytes.Given as goal

abbrev pub invariant-loop-value : goal.invariant-loop-value
invariant-loop-value l =
    behind l.bytes.items (all_meant byte_meant (map view l.rest)) ≡ all_meant byte_meant (map view l.values)

abbrev pub decreases-loop-value : goal.decreases-loop-value
decreases-loop-value l = length l.rest

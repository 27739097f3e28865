-- What was written so far.
use Rattle.std.proofs.Common.{◌≡◌, map, take}
use Rattle.serde_json.specs.View.{view}
use Rattle.duct_replay.specs.Lines.{number_data}
use Rattle.duct_replay.proofs.write.numbers.Given as goal

abbrev pub invariant-loop-byte : goal.invariant-loop-byte
invariant-loop-byte l =
    map view l.items.items ≡ map number_data (take l.byte-index l.bytes)

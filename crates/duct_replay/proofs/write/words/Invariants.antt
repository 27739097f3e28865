-- What was written so far.
use Rattle.std.proofs.Common.{◌≡◌, map, take, string_bytes}
use Rattle.serde_json.specs.View.{view}
use Rattle.serde_json.specs.Data.{string}
use Rattle.duct_replay.proofs.write.words.Given as goal

abbrev pub invariant-loop-word : goal.invariant-loop-word
invariant-loop-word l =
    map view l.items.items ≡ map string (map string_bytes (take l.word-index l.words))

-- What was written so far.
use Rattle.std.proofs.Common.{◌≡◌, map, take}
use Rattle.serde_json.specs.View.{view}
use Rattle.duct_replay.specs.Lines.{variable_data}
use Rattle.duct_replay.proofs.write.listed.Given as goal

abbrev pub invariant-loop-pair : goal.invariant-loop-pair
invariant-loop-pair l =
    map view l.items.items ≡ map (variable_data l.values) (map (λ p. (p.0.now, p.1.now)) (take l.pair-index l.pairs))

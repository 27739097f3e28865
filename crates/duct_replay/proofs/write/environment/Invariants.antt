-- What was written so far.
use Rattle.std.proofs.Common.{◌≡◌, map, take}
use Rattle.serde_json.specs.View.{view}
use Rattle.duct_system.specs.SpecView.{pair_text}
use Rattle.duct_replay.specs.Lines.{variable_data}
use Rattle.duct_replay.proofs.write.environment.Given as goal

abbrev pub invariant-loop-pair : goal.invariant-loop-pair
invariant-loop-pair l =
    map view l.items.items ≡ map (variable_data l.values) (map pair_text (take l.pair-index l.pairs))

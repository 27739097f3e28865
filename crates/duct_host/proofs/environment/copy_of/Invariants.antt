use Rattle.std.proofs.Common.{◌≡◌, map, take}
use Rattle.duct_system.specs.SpecView.{pair_text}
use Rattle.duct_host.proofs.environment.copy_of.Given as goal

abbrev pub invariant-loop-pair : goal.invariant-loop-pair
invariant-loop-pair l = map pair_text l.copies.items ≡ map pair_text (take l.pair-index l.pairs)

use Rattle.std.proofs.Common.{◌≡◌, map, take}
use Rattle.duct_system.specs.SpecView.{pair_text}
use Rattle.duct_system.proofs.copy.copies_of.Given as goal

abbrev pub invariant-loop-name : goal.invariant-loop-name
invariant-loop-name l = map pair_text l.copies.items ≡ map pair_text (take l.name-index l.pairs)

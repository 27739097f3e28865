-- One of the remaining pairs has the name where one of all has it.
use Rattle.std.proofs.Common.{◌≡◌, drop, map}
use Rattle.std.specs.List.{list_any}
use Rattle.duct_system.specs.Name.{is_same_name}
use Rattle.duct_system.specs.SpecView.{pair_text}
use Rattle.duct_words.proofs.environment.has_name.Given as goal

abbrev pub invariant-loop-pair : goal.invariant-loop-pair
invariant-loop-pair l =
    list_any (λ pair. is_same_name l.name pair.0) (map pair_text (drop l.pair-index l.pairs))
    ≡ list_any (λ pair. is_same_name l.name pair.0) (map pair_text l.pairs)

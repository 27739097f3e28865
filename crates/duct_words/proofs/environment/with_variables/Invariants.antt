-- The tree so far, with the remaining pairs, is the tree with all.
use Rattle.std.proofs.Common.{◌≡◌, drop, map}
use Rattle.duct_system.specs.SpecView.{pair_text}
use Rattle.duct.specs.TreeView.{tree_view}
use Rattle.duct_words.specs.Variables.{with_pairs}
use Rattle.duct_words.proofs.environment.with_variables.Given as goal

abbrev pub invariant-loop-pair : goal.invariant-loop-pair
invariant-loop-pair g l =
    with_pairs (map pair_text (drop l.pair-index l.pairs)) (tree_view l.made)
    ≡ with_pairs (map pair_text l.pairs) (tree_view l.expression)

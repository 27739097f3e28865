-- The pairs so far, with those of the remaining lines, are those of all.
use Rattle.std.proofs.Common.{◌≡◌, ◌+◌, drop, map}
use Rattle.duct_system.specs.SpecView.{pair_text}
use Rattle.duct_words.specs.Variables.{variables_of, with_lines}
use Rattle.duct_words.proofs.environment.variables.Given as goal

abbrev pub invariant-loop-index : goal.invariant-loop-index
invariant-loop-index l =
    with_lines (l.index + 1) (map pair_text l.pairs.items) (map (λ line. line.now) (drop l.index l.line-items))
    ≡ variables_of l.fn.text

-- Setting what is left sets all.
use Rattle.std.proofs.Common.{◌≡◌, map, length}
use Rattle.duct_system.specs.SpecView.{pair_text}
use Rattle.duct_replay.specs.Lines.{set_in_turn}
use Rattle.duct_replay.proofs.read.set_variables.Given as goal

abbrev pub invariant-loop-pair : goal.invariant-loop-pair
invariant-loop-pair l = record {
  parts : l.spec ≡ record l.fn.spec { vars = l.spec.vars };
  vars : set_in_turn l.spec.vars (map pair_text l.rest) ≡ set_in_turn l.fn.spec.vars (map pair_text l.vars);
}

abbrev pub decreases-loop-pair : goal.decreases-loop-pair
decreases-loop-pair l = length l.rest

-- What was copied is in front of what is left.
use Rattle.std.proofs.Common.{◌≡◌, ◌++◌, map}
use Rattle.duct_system.proofs.copy.spec_copy.Given as goal

abbrev pub invariant-loop-name : goal.invariant-loop-name
invariant-loop-name l = record {
  parts : l.copy ≡ record l.spec { vars = l.copy.vars };
  vars : l.copy.vars ++ map (λ p. (p.0.now, p.1.now)) l.name-iterator.rest.items ≡ l.spec.vars;
}

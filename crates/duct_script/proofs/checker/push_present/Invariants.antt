use Rattle.std.proofs.Common.{◌≡◌, ◌++◌, drop}
use Rattle.duct_system.specs.Streams.{present}
use Rattle.duct_script.proofs.checker.push_present.Given as goal

abbrev pub invariant-loop-end : goal.invariant-loop-end
invariant-loop-end l = l.numbers.items ++ present (drop l.end-index l.ends) ≡ l.initial.numbers.items ++ present l.ends

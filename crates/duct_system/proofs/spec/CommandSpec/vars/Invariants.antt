use Rattle.std.proofs.Common.{◌≡◌, ◌++◌, map}
use Rattle.duct_system.specs.SpecView.{var_view}
use Rattle.duct_system.proofs.spec.CommandSpec.vars.Given as goal

abbrev pub invariant-loop-name : goal.invariant-loop-name
invariant-loop-name l = map (λ p. (p.0.now, p.1.now)) l.pairs.items ++ map var_view l.name-iterator ≡ l.self.vars

-- None of the variables so far has the name.
use Rattle.std.proofs.Common.{◌≡◌, map}
use Rattle.duct_system.specs.SpecView.{value_of, var_view}
use Rattle.duct_system.proofs.spec.CommandSpec.var.Given as goal

abbrev pub invariant-loop-other : goal.invariant-loop-other
invariant-loop-other l =
    value_of l.fn.name (map var_view l.other-iterator) ≡ value_of l.fn.name l.fn.self.vars

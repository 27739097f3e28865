-- The map so far has the last values of the pairs so far.
use Rattle.std.proofs.Common.{map, ◌≡◌, take}
use Rattle.duct_system.specs.SpecView.{var_view}
use Rattle.duct.specs.LastValues.{last_values, pairs_of}
use Rattle.duct.proofs.expression.builders.vars.Given as goal

abbrev pub invariant-loop-name : goal.invariant-loop-name
invariant-loop-name l = map var_view l.vars.entries ≡ last_values (pairs_of (take l.name-index l.pairs))

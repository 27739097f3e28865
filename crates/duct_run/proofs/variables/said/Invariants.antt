-- The map has the variables of the pairs read so far.
use Rattle.std.proofs.Common.{map, take}
use Rattle.duct_run.proofs.Common.{IsOrdered, pair_text}
use Rattle.duct_system.specs.Name.{name_cmp}
use Rattle.duct_run.proofs.Changed.{FindsSaid}
use Rattle.duct_run.proofs.variables.said.Given as goal

abbrev pub invariant-loop-name : goal.invariant-loop-name
invariant-loop-name l = record {
  found : FindsSaid l.vars.entries (map pair_text (take l.name-index l.pairs));
  ordered : IsOrdered name_cmp l.vars;
}

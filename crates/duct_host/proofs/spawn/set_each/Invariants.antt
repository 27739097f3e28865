use Rattle.std.proofs.Common.{map, take}
use Rattle.std.specs.Process.{SameProgramAndArgs, SameDir}
use Rattle.duct_host.specs.Variables.{IsWholeEnvironment}
use Rattle.duct_host.proofs.spawn.set_each.Given as goal

abbrev pub invariant-loop-variable : goal.invariant-loop-variable
invariant-loop-variable l = record {
  vars : IsWholeEnvironment (take l.variable-index (map (λ p. (p.0.now, p.1.now)) l.variables)) l.command;
  call : SameProgramAndArgs l.initial.command l.command;
  folder : SameDir l.initial.command l.command;
}

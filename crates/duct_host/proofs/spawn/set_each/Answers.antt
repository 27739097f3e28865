use Rattle.std.proofs.Common.{rules}
use Rattle.duct_host.proofs.Variables.{whole_up_to}
use Rattle.duct_host.proofs.spawn.set_each.Goals as goal

pub loop-variable-preserved : goal.loop-variable-preserved
loop-variable-preserved c = record {
  vars = whole_up_to (λ p. (p.0.now, p.1.now)) c.args.variables.now c.loop-variable.variable-index _ c.loop-variable.command c.set_variable.new.command
      c.loop-variable-test.true c.loop-variable.invariant.vars c.in_ok-set_variable.ensures.vars;
  call = search rules;
  folder = search rules;
}

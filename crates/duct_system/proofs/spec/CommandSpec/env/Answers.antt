-- One variable is set.
use Rattle.std.proofs.Common.{refl, rules, ◌∙◌}
use Rattle.duct_system.proofs.Entries.{insert_var}
use Rattle.duct_system.proofs.spec.CommandSpec.env.Goals as goal

pub returns-clause-ok : goal.returns-clause-ok
returns-clause-ok c = rw (← c.self.view_is, c.in_ok-insert.ensures.entries, insert_var, c.in_ok-value.ensures.ok, c.from.ensures ∙ c.in_ok-name.ensures.ok) refl

pub returns-in_err-insert-clause-err : goal.returns-in_err-insert-clause-err
returns-in_err-insert-clause-err c = search rules

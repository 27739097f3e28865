-- A map's names ascend.
use Rattle.std.proofs.Common.{subst, ap}
use Rattle.duct_system.proofs.Entries.{are_ordered}
use Rattle.duct_system.specs.SpecView.{AreOrdered}
use Rattle.duct_system.proofs.spec.CommandSpec.vars.Goals as goal

pub returns-clause-ordered : goal.returns-clause-ordered
returns-clause-ordered c =
    subst AreOrdered (ap (λ s. s.vars) c.self.view_is) (are_ordered c.self.inside.vars.entries c.iter-name-items.ensures.ordered)

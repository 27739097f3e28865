-- A variable that was inserted or removed.
use Rattle.duct_run.proofs.Common.{are_ordered}
use Rattle.duct_run.proofs.Changed.{put_in, taken_away}
use Rattle.duct_run.proofs.variables.changed.Goals as goal

pub returns-in_ok-insert-in-Sets-clause-found : goal.returns-in_ok-insert-in-Sets-clause-found
returns-in_ok-insert-in-Sets-clause-found c = rw c.in-Sets.is
    (put_in c.args.vars.entries c.insert.new.self.entries _ _ _ _ c.in_ok-clone-in-Sets.ensures.cases c.in_ok-from_str-in-Sets.ensures.ok c.in_ok-insert-in-Sets.ensures.entries c.requires)

pub returns-in_ok-insert-in-Sets-clause-ordered : goal.returns-in_ok-insert-in-Sets-clause-ordered
returns-in_ok-insert-in-Sets-clause-ordered c = are_ordered c.insert.new.self.entries c.in_ok-insert-in-Sets.ensures.ordered

pub returns-in-Removes-clause-found : goal.returns-in-Removes-clause-found
returns-in-Removes-clause-found c = rw c.in-Removes.is
    (taken_away c.args.vars.entries c.remove.new.self.entries _ c.remove.ensures.entries c.requires)

pub returns-in-Removes-clause-ordered : goal.returns-in-Removes-clause-ordered
returns-in-Removes-clause-ordered c = are_ordered c.remove.new.self.entries c.remove.ensures.ordered

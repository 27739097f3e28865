use Rattle.std.proofs.Common.{inl}
use Rattle.duct_tasks.proofs.Staying.{stays_same}
use Rattle.duct_tasks.proofs.run.closed.Goals as goal

pub returns-in-Err-clause-failed : goal.returns-in-Err-clause-failed
returns-in-Err-clause-failed g c = (
  c.args.running,
  stays_same c.args.running,
  (
    record { outcome = inl (rw c.in-Err.is at c.requires.ended); allowed = c.requires.allowed },
    c.give_up.ensures,
  ),
)

-- Borrowed bytes and outcomes of the code as contracts see them.
use Rattle.std.specs.Prelude.{ℕ, List}
use Rattle.std.specs.Borrow.{Bor}
use Rattle.duct_system.specs.declared.system.Said.{Said}
use Rattle.duct_system.specs.declared.system.Said.TheVariants as said
use Rattle.duct_status.specs.declared.status.outcome.Outcome.{Outcome as Findings}
use Rattle.duct_status.specs.declared.status.outcome.Outcome.TheVariants as found
use Rattle.duct_status.specs.Outcome.{OutcomeView, waits, faults, finished}

-- what a worker reported, with the borrowed bytes themselves
abbrev pub lent_bytes : Said (Bor (List ℕ)) → Said (List ℕ)
lent_bytes said.Running = said.Running
lent_bytes (said.Done bytes) = said.Done bytes.now
lent_bytes (said.Fault fault) = said.Fault fault

-- what contracts see of an outcome
abbrev pub outcome_view : Findings → OutcomeView
outcome_view found.Waits = waits
outcome_view (found.Faults fault) = faults fault
outcome_view (found.Finished output error) = finished output.now error.now

use Rattle.std.proofs.Common.{rules}
use Rattle.duct_status.proofs.status.Core.outcome.Goals as goal

pub returns-in-Waits : goal.returns-in-Waits
returns-in-Waits c = search rules

pub returns-in-Faults : goal.returns-in-Faults
returns-in-Faults c = search rules

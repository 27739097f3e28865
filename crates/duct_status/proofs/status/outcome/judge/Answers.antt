use Rattle.std.proofs.Common.{rules}
use Rattle.duct_status.proofs.status.outcome.judge.Goals as goal

pub returns-in-Fault-default : goal.returns-in-Fault-default
returns-in-Fault-default c = search rules

pub returns-in-Running-default : goal.returns-in-Running-default
returns-in-Running-default c = search rules

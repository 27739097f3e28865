use Rattle.std.proofs.Common.{rules}
use Rattle.duct_status.proofs.status.Core.repeat_answer.Goals as goal

pub returns-in-Some-clause-again : goal.returns-in-Some-clause-again
returns-in-Some-clause-again c = search rules

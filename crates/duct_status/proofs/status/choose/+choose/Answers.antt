use Rattle.std.proofs.Common.{rules}
use Rattle.duct_status.proofs.status.choose.+choose.Goals as goal

pub returns-else-is_failure-clause-words : goal.returns-else-is_failure-clause-words
returns-else-is_failure-clause-words t c = search rules

pub returns-else-is_failure-clause-status : goal.returns-else-is_failure-clause-status
returns-else-is_failure-clause-status t c = search rules

pub returns-else-is_failure-clause-checked : goal.returns-else-is_failure-clause-checked
returns-else-is_failure-clause-checked t c = search rules

pub returns-in-Unchecked-clause-words : goal.returns-in-Unchecked-clause-words
returns-in-Unchecked-clause-words t c = search rules

pub returns-in-Unchecked-clause-status : goal.returns-in-Unchecked-clause-status
returns-in-Unchecked-clause-status t c = search rules

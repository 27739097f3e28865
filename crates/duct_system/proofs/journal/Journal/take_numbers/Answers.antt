use Rattle.std.proofs.Common.{rules}
use Rattle.duct_system.proofs.journal.Journal.take_numbers.Goals as goal

pub returns-clause-some : goal.returns-clause-some
returns-clause-some c = search rules

use Rattle.std.proofs.Common.{rules}
use Rattle.duct_system.proofs.journal.Journal.new.Goals as goal

pub returns : goal.returns
returns c = search rules

use Rattle.std.proofs.Common.{rules}
use Rattle.duct_host.proofs.host.Host.adopt_writer.Goals as goal

pub returns-clause-ok : goal.returns-clause-ok
returns-clause-ok g c = search rules

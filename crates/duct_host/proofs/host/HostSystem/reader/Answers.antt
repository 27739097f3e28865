use Rattle.std.proofs.Common.{rules}
use Rattle.duct_host.proofs.host.HostSystem.reader.Goals as goal

pub returns-clause-added : goal.returns-clause-added
returns-clause-added g c = search rules

use Rattle.std.proofs.Common.{rules}
use Rattle.duct_host.proofs.host.HostSystem.clear_journal.Goals as goal

pub returns : goal.returns
returns g c = search rules

use Rattle.std.proofs.Common.{rules}
use Rattle.duct_base.proofs.exe.StringIntoExecutablePath.to_executable.Goals as goal

pub returns-clause-text : goal.returns-clause-text
returns-clause-text c = search rules

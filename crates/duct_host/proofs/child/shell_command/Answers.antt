use Rattle.std.proofs.Common.{rules}
use Rattle.duct_host.proofs.child.shell_command.Goals as goal

pub returns : goal.returns
returns c = record {
  program = search rules;
  arguments = search rules;
  folder = search rules;
  vars = search rules;
}

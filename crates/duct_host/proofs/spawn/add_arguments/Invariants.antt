use Rattle.std.proofs.Common.{◌≡◌, ◌++◌, map, take, string_bytes}
use Rattle.std.specs.Process.{command_program, command_args, SameDir}
use Rattle.duct_host.proofs.spawn.add_arguments.Given as goal

abbrev pub invariant-loop-argument : goal.invariant-loop-argument
invariant-loop-argument l = record {
  arguments : command_args l.command ≡ command_args l.initial.command ++ map string_bytes (take l.argument-index l.arguments);
  program : command_program l.command ≡ command_program l.initial.command;
  folder : SameDir l.initial.command l.command;
}

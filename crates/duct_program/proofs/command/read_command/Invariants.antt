-- What was read so far, followed by what is read of the rest, is what is read of all.
use Rattle.std.proofs.Common.{◌≡◌, map, string_bytes, None, length}
use Rattle.duct_system.specs.SpecView.{texts_of}
use Rattle.duct_program.specs.Line.{parts_of, redirection_view}
use Rattle.duct_program.proofs.Parts.{behind}
use Rattle.duct_program.proofs.command.read_command.Given as goal

abbrev pub invariant-loop-arg : goal.invariant-loop-arg
invariant-loop-arg l =
    behind (texts_of l.words.items) (map redirection_view l.redirections.items) (parts_of None (map string_bytes l.rest))
    ≡ parts_of None (map string_bytes l.args)

abbrev pub decreases-loop-arg : goal.decreases-loop-arg
decreases-loop-arg l = length l.rest

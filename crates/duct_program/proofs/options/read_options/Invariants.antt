-- What is read after the options so far is what is read of all.
use Rattle.std.proofs.Common.{◌≡◌, map, string_bytes, false, length}
use Rattle.duct_program.specs.Line.{no_options, options_from, options_view}
use Rattle.duct_program.proofs.options.read_options.Given as goal

abbrev pub invariant-loop-arg : goal.invariant-loop-arg
invariant-loop-arg l =
    options_from false (options_view l.options) (map string_bytes l.rest)
    ≡ options_from false no_options (map string_bytes l.args)

abbrev pub decreases-loop-arg : goal.decreases-loop-arg
decreases-loop-arg l = length l.rest

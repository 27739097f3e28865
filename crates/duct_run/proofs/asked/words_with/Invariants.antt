-- The words so far are the program and the arguments so far.
use Rattle.duct_run.proofs.Common.{arc_value, program_text}
use Rattle.std.proofs.Common.{map, ◌≡◌, ◌∷◌, string_bytes, take}
use Rattle.duct_run.proofs.asked.words_with.Given as goal

abbrev pub invariant-loop-argument : goal.invariant-loop-argument
invariant-loop-argument l =
    map string_bytes l.copy.items ≡ program_text l.fn.program (map string_bytes (arc_value l.words).items) ∷ map string_bytes (take l.argument-index l.arguments)

-- The arguments that are left complete the text.
use Rattle.std.proofs.Common.{codes, drop, map, string_bytes}
use Rattle.duct_status.specs.Form.{each_form, of_text, printed}
use Rattle.duct_base.proofs.Written.{Continues}
use Rattle.duct_base.proofs.text.write_arguments.Given as goal

abbrev pub invariant-loop-argument : goal.invariant-loop-argument
invariant-loop-argument g l =
    Continues g.W.Write.write_str_gives l.fn.f
    (printed (each_form (of_text (codes " ")) (map string_bytes l.fn.arguments))) l.f
    (printed (each_form (of_text (codes " ")) (map string_bytes (drop l.argument-index l.arguments))))

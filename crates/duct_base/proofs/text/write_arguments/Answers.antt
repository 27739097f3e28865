use Rattle.std.proofs.Common.{arith, codes, map, refl, string_bytes}
use Rattle.duct_status.specs.Form.{each_form, of_text, printed}
use Rattle.duct_base.proofs.Written.{continues_more, continues_end}
use Rattle.duct_base.proofs.text.write_arguments.Goals as goal

pub loop-argument-preserved : goal.loop-argument-preserved
loop-argument-preserved g c =
    continues_more g.W.Write.write_str_gives
    (λ place arguments. printed (each_form (of_text (codes " ")) (map string_bytes arguments)))
    _ _ _ c.args.arguments.now c.loop-argument.argument-index
    (λ place argument. printed (of_text (codes " ") (string_bytes argument)))
    c.write.new.self c.argument-item.result (λ place argument arguments. refl)
    c.loop-argument-test.true c.argument-item.is c.in_ok-write.ensures.writes c.loop-argument.invariant

pub returns : goal.returns
returns g c =
    continues_end g.W.Write.write_str_gives
    (λ place arguments. printed (each_form (of_text (codes " ")) (map string_bytes arguments)))
    _ _ _ c.args.arguments.now c.loop-argument.argument-index refl (omega arith) c.loop-argument.invariant

-- Text is written as text, and other bytes as numbers.
use Rattle.std.proofs.Common.{◌∙◌}
use Rattle.std.proofs.lemmas.Result.{IfOk-weaker}
use Rattle.duct_replay.proofs.Bytes.{as_text, as_numbers}
use Rattle.duct_replay.proofs.write.input.Goals as goal

pub returns-in-Ok-clause-value : goal.returns-in-Ok-clause-value
returns-in-Ok-clause-value c =
    let cases = c.in-Ok.ensures.cases in
    IfOk-weaker c.text.result _ _ (λ value is. is ∙ as_text c.args.bytes.now c.in-Ok.input.now cases.0 cases.1) c.text.ensures

pub returns-in-Ok-clause-bytes : goal.returns-in-Ok-clause-bytes
returns-in-Ok-clause-bytes c place = (c.type_inv.bytes place).fits

pub returns-in-Err-clause-value : goal.returns-in-Err-clause-value
returns-in-Err-clause-value c =
    IfOk-weaker c.numbers.result _ _ (λ value is. is ∙ as_numbers c.args.bytes.now c.in-Err.ensures.cases.0) c.numbers.ensures

pub returns-in-Err-clause-bytes : goal.returns-in-Err-clause-bytes
returns-in-Err-clause-bytes c place = (c.type_inv.bytes place).fits

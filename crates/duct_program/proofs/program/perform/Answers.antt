use Rattle.std.proofs.Common.{ap, refl, sym, ◌∙◌, Err}
use Rattle.duct_program.proofs.Printing.{refused_as_read, status_known, two_prints_usage, zero_prints_none}
use Rattle.duct_program.proofs.program.perform.Goals as goal

pub returns-in-Ok-clause-text : goal.returns-in-Ok-clause-text
returns-in-Ok-clause-text g c = λ zero.
    let printed = status_known _ c.print_text.result 0 (λ no. cc) (sym c.unwrap_or.ensures ∙ zero) c.print_text.ensures.text refl in
    (c.in-Ok.text, c.in-Ok.ensures.text, printed.0, printed.1)

pub returns-in-Err-clause-text : goal.returns-in-Err-clause-text
returns-in-Err-clause-text g c = λ zero.
    absurd (zero_prints_none c.in-Err.failure _ _ (status_known _ c.print_failure.result 0 (λ no. cc) (sym c.unwrap_or-in-Err.ensures ∙ zero) c.print_failure.ensures))

pub returns-in-Err-clause-usage : goal.returns-in-Err-clause-usage
returns-in-Err-clause-usage g c = λ two.
    let printed = two_prints_usage c.in-Err.failure _ _ (status_known _ c.print_failure.result 2 (λ no. cc) (sym c.unwrap_or-in-Err.ensures ∙ two) c.print_failure.ensures) in
    let refused = c.in-Err.ensures.usage printed.0 (ap Err printed.1) in
    (printed.0, refused_as_read printed.0 _ printed.2 refused.0, refused.1, printed.3, refl)

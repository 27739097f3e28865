-- What is read of a character is what is read of its bytes.
use Rattle.std.proofs.lemmas.Result.{err_from_is_err_and}
use Rattle.duct_words.proofs.Characters.{read_on, refused}
use Rattle.duct_words.proofs.lexer.tokens_of.Goals as goal

pub loop-place-preserved : goal.loop-place-preserved
loop-place-preserved c =
    let steps = c.in-Some.ensures.steps in
    read_on c.in-Some.place _ c.in-Some.character c.next.new.self.rest.now _ _ steps.0 steps.1 _ c.loop-place.invariant
    _ _ steps.2 c.in_ok-step.ensures

pub returns-in_err-step : goal.returns-in_err-step
returns-in_err-step c =
    let steps = c.in-Some.ensures.steps in
    let p = err_from_is_err_and c.from_residual.result c.from_residual.ensures.1 in
    rw (p.1, p.2)
    (refused c.in-Some.place _ c.in-Some.character c.next.new.self.rest.now _ _ steps.0 steps.1 _ c.loop-place.invariant
    c.in_err-step.field-0.0 c.in_err-step.ensures)

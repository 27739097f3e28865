-- A start of a whole tree, with the reader of its stdout.
use Rattle.std.proofs.lemmas.Result.{err_from_is_err_and}
use Rattle.duct.proofs.Launching.{refused_unasked}
use Rattle.duct.proofs.expression.Expression.launch_reader.Goals as goal

pub returns-in_err-ready-clause-refused : goal.returns-in_err-ready-clause-refused
returns-in_err-ready-clause-refused g c =
    let p = err_from_is_err_and c.from_residual.result c.from_residual.ensures.1 in
    rw (p.1, p.2, c.in_err-ready.ensures.memory) refused_unasked

pub returns-in_err-running-clause-refused : goal.returns-in_err-running-clause-refused
returns-in_err-running-clause-refused g c =
    let p = err_from_is_err_and c.from_residual-in_err-running.result c.from_residual-in_err-running.ensures.1 in
    rw (p.1, p.2) c.in_err-running.ensures.refused

pub returns-clause-launched : goal.returns-clause-launched
returns-clause-launched g c =
    let l = c.in_ok-running.ensures.launched in
    record { asked = l.asked; makes = (l.makes.0, rw c.in-Some.is at l.makes.1); swept = l.swept }

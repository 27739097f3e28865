-- A start of a whole tree with a handle that reads.
use Rattle.std.proofs.lemmas.Result.{err_from_is_err_and}
use Rattle.duct_run.proofs.Seeing.{views_of}
use Rattle.duct_running.proofs.Launched.{launched_unasked}
use Rattle.duct_handle.proofs.Beginning.{are_ids, is_handle}
use Rattle.duct.proofs.Launching.{refused_unasked}
use Rattle.duct.proofs.expression.Expression.reader.Goals as goal

pub returns-in_err-ready-clause-refused : goal.returns-in_err-ready-clause-refused
returns-in_err-ready-clause-refused g c =
    let p = err_from_is_err_and c.from_residual.result c.from_residual.ensures.1 in
    rw (p.1, p.2, c.in_err-ready.ensures.memory) refused_unasked

pub returns-in_err-room-clause-refused : goal.returns-in_err-room-clause-refused
returns-in_err-room-clause-refused g c =
    let p = err_from_is_err_and c.from_residual-in_err-room.result c.from_residual-in_err-room.ensures.1 in
    rw (p.1, p.2, c.in_err-room.ensures.memory) refused_unasked

pub returns-in_err-running-clause-refused : goal.returns-in_err-running-clause-refused
returns-in_err-running-clause-refused g c =
    let p = err_from_is_err_and c.from_residual-in_err-running.result c.from_residual-in_err-running.ensures.1 in
    rw (p.1, p.2) c.in_err-running.ensures.refused

pub returns-clause-launched : goal.returns-clause-launched
returns-clause-launched g c =
    let l = c.in_ok-running.ensures.launched in
    let handle = c.handle_of.ensures in
    record {
      asked = l.asked;
      makes = rw c.reader_handle_of.ensures (is_handle _ _ _ _ _ _ _ _ c.handle_of.result l.makes.0 handle.shape handle.numbers, are_ids _ _ _ _ _ _ _ _ _ l.makes.0 handle.ids);
      swept = l.swept;
    }

pub handle_of-requires-clause-unasked : goal.handle_of-requires-clause-unasked
handle_of-requires-clause-unasked g c =
    launched_unasked (views_of g.S.System g.E.Numbered g.S.Child.Child g.S.Feed.Job g.S.Drain.Job) c.in_ok-running.ensures.launched.makes.0

pub reader_handle_of-requires : goal.reader_handle_of-requires
reader_handle_of-requires g c =
    let made = rw c.in-Some.is at c.in_ok-running.ensures.launched.makes.1 in
    (made.1, made.3)

use Rattle.std.proofs.Common.{refl}
use Rattle.std.proofs.lemmas.Result.{err_from_is_err_and}
use Rattle.duct_tasks.proofs.Common.{views_of}
use Rattle.duct_tasks.proofs.Capturing.{stores_error, stores_reply}
use Rattle.duct_tasks.proofs.attended.Attended.finish.Goals as goal

pub returns-in_err-own-clause-failed : goal.returns-in_err-own-clause-failed
returns-in_err-own-clause-failed g c =
    let views = views_of g.S.System g.S.End.Numbered g.S.Child.Child g.S.Feed.Job g.S.Drain.Job in
    let p = err_from_is_err_and c.from_residual.result c.from_residual.ensures.1 in
    rw (p.1, p.2) (
      c.in_err-own.field-0.0,
      refl,
      stores_error views c.args.self.running c.requires.allowed c.args.ended
          c.in_err-own.field-0.0 c.requires.ended c.in_err-own.ensures.err,
      c.in_err-own.ensures.given,
    )

pub returns-clause-status : goal.returns-clause-status
returns-clause-status g c =
    let views = views_of g.S.System g.S.End.Numbered g.S.Child.Child g.S.Feed.Job g.S.Drain.Job in (
      c.in_ok-own.own,
      refl,
      stores_reply views c.args.self.running c.requires.allowed c.args.ended c.in_ok-own.own
          c.requires.ended c.in_ok-own.ensures.ok,
    )

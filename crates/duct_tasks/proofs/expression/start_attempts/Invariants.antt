use Rattle.std.specs.Duration.{as_nanos}
use Rattle.duct_tasks.proofs.Common.{FnReturnsAt, views_of, IsStart, draining}
use Rattle.duct_tasks.proofs.EachAttempt.{SoFar}
use Rattle.duct_tasks.proofs.expression.start_attempts.Given as goal

abbrev pub invariant-loop : goal.invariant-loop
invariant-loop g l =
    SoFar (IsStart (views_of g.S.System g.S.End.Numbered g.S.Child.Child g.S.Feed.Job g.S.Drain.Job)
    g.H.Hook.allows g.H.Hook.refuses l.expression draining)
    (FnReturnsAt g.F.Fn l.is_transient)
    (g.C.Clock.may_show l.retries.clock.now) l.retries.pause l.retries.greatest
    (l.fn.system, l.fn.pool) l.counter (as_nanos l.pause) (l.system, l.pool)

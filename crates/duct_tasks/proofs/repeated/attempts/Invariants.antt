use Rattle.std.specs.Duration.{as_nanos}
use Rattle.duct_tasks.proofs.Common.{FnReturnsAt, FnReturnsAtPairMut}
use Rattle.duct_tasks.proofs.EachAttempt.{SoFar}
use Rattle.duct_tasks.proofs.repeated.attempts.Given as goal

abbrev pub invariant-loop : goal.invariant-loop
invariant-loop g l = SoFar (FnReturnsAtPairMut g.A.Fn l.attempt) (FnReturnsAt g.F.Fn l.is_transient)
    (g.C.Clock.may_show l.retries.clock.now) l.retries.pause l.retries.greatest
    (l.fn.system, l.fn.pool) l.counter (as_nanos l.pause) (l.system, l.pool)

use Rattle.std.proofs.Common.{arith, inl, refl}
use Rattle.duct_tasks.proofs.EachAttempt.{ends, failed, first, gives_up}
use Rattle.duct_tasks.proofs.expression.start_attempts.Goals as goal

pub loop-init : goal.loop-init
loop-init g c = first

pub loop-preserved : goal.loop-preserved
loop-preserved g c =
    failed c.loop.invariant _ (omega arith) c.in-Err.error (
      c.in-Err.ensures,
      record {
        shown = _;
        shows = refl;
        says = record
            { met = c.if-not-is_transient.ensures };
      },
    ) c.rest-pause.result c.rest-pause.ensures.longer c.rest-pause.ensures.passed

pub returns-in-Ok : goal.returns-in-Ok
returns-in-Ok g c = ends c.loop.invariant c.args.retries.now.most (omega (arith, c.loop-test.true))
    c.in-Ok.ensures tt

pub returns-then-not-is_transient : goal.returns-then-not-is_transient
returns-then-not-is_transient g c =
    ends c.loop.invariant c.args.retries.now.most (omega (arith, c.loop-test.true)) c.in-Err.ensures
    (inl (record {
      shown = _;
      shows = refl;
      says = record { met = c.if-not-is_transient.ensures };
    }))

pub returns : goal.returns
returns g c =
    gives_up c.loop.invariant c.args.retries.now.most (omega (arith, c.loop-test.false, c.loop.auto))
    c.start_once-2.result c.start_once-2.ensures

use Rattle.std.proofs.Common.{arith, inl, refl}
use Rattle.duct_tasks.proofs.EachAttempt.{ends, failed, first, gives_up}
use Rattle.duct_tasks.proofs.repeated.attempts.Goals as goal

pub loop-init : goal.loop-init
loop-init g c = first

pub loop-preserved : goal.loop-preserved
loop-preserved g c =
    failed c.loop.invariant _ (omega arith) c.in-Err.error (
      record {
        first = _;
        second = _;
        shows = (refl, refl);
        left = _;
        met = c.in-Err.ensures;
        leaves = (refl, refl);
      },
      record { shown = _; shows = refl; says = record { met = c.if-not-is_transient.ensures } },
    ) c.rest-pause.result c.rest-pause.ensures.longer c.rest-pause.ensures.passed

pub returns-in-Ok : goal.returns-in-Ok
returns-in-Ok g c =
    ends c.loop.invariant c.args.retries.now.most (omega (arith, c.loop-test.true))
    (record {
      first = _;
      second = _;
      shows = (refl, refl);
      left = _;
      met = c.in-Ok.ensures;
      leaves = (refl, refl);
    }) tt

pub returns-then-not-is_transient : goal.returns-then-not-is_transient
returns-then-not-is_transient g c =
    ends c.loop.invariant c.args.retries.now.most (omega (arith, c.loop-test.true))
    (record {
      first = _;
      second = _;
      shows = (refl, refl);
      left = _;
      met = c.in-Err.ensures;
      leaves = (refl, refl);
    })
    (inl (record {
      shown = _;
      shows = refl;
      says = record { met = c.if-not-is_transient.ensures };
    }))

pub returns : goal.returns
returns g c =
    gives_up c.loop.invariant c.args.retries.now.most (omega (arith, c.loop-test.false, c.loop.auto))
    c.attempt-2.result
    (record {
      first = _;
      second = _;
      shows = (refl, refl);
      left = _;
      met = c.attempt-2.ensures;
      leaves = (refl, refl);
    })

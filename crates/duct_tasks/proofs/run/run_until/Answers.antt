use Rattle.duct_tasks.proofs.Common.{err_from_is_err_and, views_of, PoolGets}
use Rattle.duct_tasks.proofs.Ending.{takes_stopped}
use Rattle.duct_tasks.proofs.run.run_until.Goals as goal

pub returns-in_err-output : goal.returns-in_err-output
returns-in_err-output g c =
    let p = err_from_is_err_and c.from_residual.result c.from_residual.ensures.1 in
    rw (p.1, p.2) c.in_err-output.ensures.failed

pub returns-in-Done : goal.returns-in-Done
returns-in-Done g c = rw c.in-Done.is at c.in_ok-output.ensures.done

pub returns-in-Late : goal.returns-in-Late
returns-in-Late g c =
    let views = views_of g.S.System g.E.Numbered g.S.Child.Child g.S.Feed.Job g.S.Drain.Job in
    let gets : PoolGets views c.in-Late.lapsed.running.children c.launch_until.new.pool
    c.give_up.new.pool =
    rw (← c.into_running.ensures) c.give_up.ensures in (
      record {
        late = rw c.in-Late.is at c.in_ok-output.ensures.late;
        patient = rw c.in-Late.is at
            c.in_ok-output.ensures.grace;
      },
      record {
        running = c.in-Late.lapsed.running;
        ended = c.launch_until.new.pool;
        stopped = rw c.in-Late.is at c.in_ok-output.ensures.stopped;
        pool = takes_stopped views c.in-Late.lapsed.running c.launch_until.new.pool
            c.give_up.new.pool gets;
      },
    )

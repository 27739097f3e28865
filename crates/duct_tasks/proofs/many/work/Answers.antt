use Rattle.std.proofs.Common.{refl, ◌∙◌}
use Rattle.duct_tasks.proofs.Moving.{goes_nowhere, goes_on}
use Rattle.duct_tasks.proofs.many.work.Goals as goal

pub loop-init : goal.loop-init
loop-init g c =
    let crew = c.args.crew.now in
    record {
      can = tt;
      ends = tt;
      tasks = refl;
      ready = c.requires.ready;
      goes = goes_nowhere crew.tasks crew.stopped crew.started.items c.args.sys.now
          c.args.pool.now.given;
    }

pub loop-preserved : goal.loop-preserved
loop-preserved g c =
    let i = c.loop.invariant in
    let asked = c.start_more.ensures.tasks ∙ i.tasks in
    let still = c.stop_after_failure.ensures.tasks ∙ asked in
    record {
      can = tt;
      ends = tt;
      tasks = c.turn_all.ensures.tasks ∙ still;
      ready = c.turn_all.ensures.ready;
      goes = goes_on still (goes_on asked (goes_on i.tasks i.goes c.start_more.ensures.goes)
          c.stop_after_failure.ensures.goes) c.turn_all.ensures.goes;
    }

pub returns-then-not-is_busy-clause-goes : goal.returns-then-not-is_busy-clause-goes
returns-then-not-is_busy-clause-goes g c =
    goes_on c.loop.invariant.tasks c.loop.invariant.goes c.start_more.ensures.goes

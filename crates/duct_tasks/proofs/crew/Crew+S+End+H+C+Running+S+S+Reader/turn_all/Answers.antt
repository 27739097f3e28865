use Rattle.std.proofs.Common.{arith, refl, ◌∙◌}
use Rattle.duct_tasks.proofs.Moving.{goes_nowhere, goes_on}
use Rattle.duct_tasks.proofs.crew.Crew+S+End+H+C+Running+S+S+Reader.turn_all.Goals as goal

pub loop-at-init : goal.loop-at-init
loop-at-init g c =
    let self = c.args.self.now in
    record {
      tasks = refl;
      ready = c.requires.ready;
      count = omega (arith, c.len-at-end.ensures, self.started.ok.0);
      goes = goes_nowhere self.tasks self.stopped self.started.items c.args.sys.now
          c.args.pool.now.given;
    }

pub loop-at-preserved : goal.loop-at-preserved
loop-at-preserved g c =
    let i = c.loop-at.invariant in
    record {
      tasks = c.turn-turned.ensures.tasks ∙ i.tasks;
      ready = c.turn-turned.ensures.ready;
      count = c.turn-turned.ensures.count ∙ i.count;
      goes = goes_on i.tasks i.goes c.turn-turned.ensures.goes;
    }

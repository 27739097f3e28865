use Rattle.std.proofs.Common.{arith, inr, refl, ◌∙◌}
use Rattle.duct_tasks.proofs.Moving.{goes_nowhere, goes_on}
use Rattle.duct_tasks.proofs.crew.Crew+S+End+H+C+Running+S+S+Reader.start_more.Goals as goal

pub loop-at-init : goal.loop-at-init
loop-at-init g c =
    let self = c.args.self.now in
    record {
      tasks = refl;
      ready = c.requires.ready;
      count = omega (arith, c.len-at.ensures, self.started.ok.0);
      all = omega arith;
      goes = goes_nowhere self.tasks self.stopped self.started.items c.args.sys.now
          c.args.pool.now.given;
    }

pub loop-at-preserved : goal.loop-at-preserved
loop-at-preserved g c =
    let i = c.loop-at.invariant in
    record {
      tasks = c.start.ensures.tasks ∙ i.tasks;
      ready = c.start.ensures.ready;
      count = omega (arith, c.start.ensures.one, i.count);
      all = i.all;
      goes = goes_on i.tasks i.goes c.start.ensures.goes;
    }

pub returns-then-not-has_room-clause-over : goal.returns-then-not-has_room-clause-over
returns-then-not-has_room-clause-over g c = inr (c.has_room.ensures.full c.if-not-has_room.true)

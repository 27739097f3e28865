use Rattle.std.proofs.Common.{◌≡◌, ◌∙◌, Bool, if◌then◌else◌, ap, arith, false, true, refl, subst, sym}
use Rattle.duct_tasks.proofs.Common.{All-set, length-set, failed_of, running_of, Task, views_of}
use Rattle.duct_tasks.proofs.Counting.{changed, either, neither}
use Rattle.duct_tasks.proofs.Moving.{goes_at}
use Rattle.duct_tasks.specs.Tasks.{IsDue, IsReadyIf}
use Rattle.duct_tasks.proofs.crew.Crew+S+End+H+C+Running+S+S+Reader.turn.Goals as goal

pub invariant_of-self : goal.invariant_of-self
invariant_of-self g c =
    let self = c.args.self.now in
    let before = c.index_mut-task.result.now in
    let after = c.advance-came.new.task in
    let runs = changed (λ (t : Task _ _). running_of t) before after c.args.at self.started.items
    c.index_mut-task.ensures.value c.requires.within in
    let fails = changed (λ (t : Task _ _). failed_of t) before after c.args.at self.started.items
    c.index_mut-task.ensures.value c.requires.within in
    let counts : (b : Bool) → c.has_failed.result ≡ b → failed_of after ≡ (if b then 1 else 0) =
    λ b is. c.has_failed.ensures ∙ ap (λ (b : Bool). if b then 1 else 0) is in
    record {
      some = self.some;
      few = omega (
        arith,
        self.few,
        self.runs,
        runs,
        c.advance-came.ensures.runs,
        c.running.ensures.is,
        c.running-2.ensures.is,
      );
      runs = omega (arith, self.runs, runs, c.running.ensures.is, c.running-2.ensures.is);
      fails = either self.failed c.has_failed.result (λ is. omega
          (arith, self.fails is, fails, c.advance-came.ensures.fails))
          (λ is. omega (arith, counts true is, fails));
      well = λ is.
          let none = neither self.failed c.has_failed.result is in
          omega (arith, self.well none.0, counts false none.1, fails);
      stops = λ is. let stop = self.stops is in (rw stop.0 refl, stop.1);
      room = self.room;
      within = rw (length-set self.started.items c.args.at after) self.within;
    }

pub returns-clause-goes : goal.returns-clause-goes
returns-clause-goes g c =
    let self = c.args.self.now in
    let views = views_of g.S.System g.S.End.Numbered g.S.Child.Child g.S.Feed.Job g.S.Drain.Job in
    let task = c.index_mut-task.result.now in
    let ready = subst (λ (t : Task _ _). IsReadyIf views g.S.Reader.Read.remaining
    (g.C.Clock.may_show self.tasks.clock.now) (IsDue (g.C.Clock.may_show self.tasks.clock.now)
    self.tasks.limit self.stopped) t) (sym c.index_mut-task.ensures.value)
    (c.requires.ready c.args.at task c.requires.within) in
    goes_at self.tasks self.stopped c.args.at self.started.items c.index_mut-task.result.now
    c.advance-came.new.task c.index_mut-task.ensures.value c.requires.within
    (c.advance-came.ensures.goes self.stopped ready.1)

pub returns-clause-ready : goal.returns-clause-ready
returns-clause-ready g c =
    let self = c.args.self.now in
    let views = views_of g.S.System g.S.End.Numbered g.S.Child.Child g.S.Feed.Job g.S.Drain.Job in
    let task = c.index_mut-task.result.now in
    let P = λ (t : Task _ _). IsReadyIf views g.S.Reader.Read.remaining
    (g.C.Clock.may_show self.tasks.clock.now) (IsDue (g.C.Clock.may_show self.tasks.clock.now)
    self.tasks.limit self.stopped) t in
    let ready = subst P (sym c.index_mut-task.ensures.value)
    (c.requires.ready c.args.at task c.requires.within) in
    All-set P self.started.items c.args.at c.advance-came.new.task
    (c.advance-came.ensures.ready, (c.advance-came.ensures.goes self.stopped ready.1).due)
    c.requires.ready

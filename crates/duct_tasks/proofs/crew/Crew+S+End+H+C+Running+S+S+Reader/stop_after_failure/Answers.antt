use Rattle.std.proofs.Common.{◌∙◌, ◌<◌, All, Bool, List, arith, inr, length, refl, subst, sym, take, true}
use Rattle.duct_tasks.proofs.Common.{All-set, length-set, failed_of, running_of, Task, Tasks, views_of}
use Rattle.std.proofs.lemmas.List.{take_more_set}
use Rattle.std.proofs.lemmas.List.Elements.{All-nil, All-push, All-weaker}
use Rattle.duct_tasks.proofs.Counting.{changed}
use Rattle.duct_tasks.proofs.Jobs.{due_from}
use Rattle.duct_tasks.proofs.Moving.{due_on, goes_at, goes_nowhere, goes_on, goes_raised}
use Rattle.duct_tasks.specs.Tasks.{IsDue, IsReadyIf, WasAskedTask}
use Rattle.duct_tasks.proofs.crew.Crew+S+End+H+C+Running+S+S+Reader.stop_after_failure.Goals as goal

pub invariant_of-self-in-loop-at : goal.invariant_of-self-in-loop-at
invariant_of-self-in-loop-at g c =
    let now = c.loop-at.self in
    let before = c.index_mut.result.now in
    let after = c.ask.new.task in
    let some : c.loop-at.at < length now.started.items = omega
    (arith, c.loop-at.invariant.count, c.loop-at-test.true) in
    let runs = changed (λ (t : Task _ _). running_of t) before after c.loop-at.at now.started.items
    c.index_mut.ensures.value some in
    let fails = changed (λ (t : Task _ _). failed_of t) before after c.loop-at.at now.started.items
    c.index_mut.ensures.value some in
    record {
      some = now.some;
      few = now.few;
      runs = omega (arith, now.runs, c.ask.ensures.runs, runs);
      fails = λ is. omega (arith, now.fails is, c.ask.ensures.fails, fails);
      well = λ is. omega (arith, now.well is, c.ask.ensures.fails, fails);
      stops = now.stops;
      room = now.room;
      within = rw (length-set now.started.items c.loop-at.at after) now.within;
    }

pub loop-at-init : goal.loop-at-init
loop-at-init g c =
    let self = c.args.self.now in
    let views = views_of g.S.System g.S.End.Numbered g.S.Child.Child g.S.Feed.Job g.S.Drain.Job in
    let P = λ (stopped : Bool) (t : Task _ _). IsReadyIf views g.S.Reader.Read.remaining
    (g.C.Clock.may_show self.tasks.clock.now) (IsDue (g.C.Clock.may_show self.tasks.clock.now)
    self.tasks.limit stopped) t in
    record {
      tasks = refl;
      failed = refl;
      stopped = refl;
      all = refl;
      count = omega (arith, c.len-at-end.ensures, self.started.ok.0);
      asked = All-nil WasAskedTask;
      ready = All-weaker (P self.stopped) (P true)
          (λ task is. (
            is.0,
            due_from (due_on (g.C.Clock.may_show self.tasks.clock.now)
                self.tasks.limit self.stopped true (λ is. refl)) task is.1,
          )) self.started.items
          c.requires.ready;
      goes = goes_raised self.tasks self.stopped true (λ is. refl) self.started.items c.args.sys.now
          c.args.pool.now.given;
    }

pub loop-at-preserved : goal.loop-at-preserved
loop-at-preserved g c =
    let i = c.loop-at.invariant in
    let now = c.loop-at.self in
    let views = views_of g.S.System g.S.End.Numbered g.S.Child.Child g.S.Feed.Job g.S.Drain.Job in
    let some : c.loop-at.at < length now.started.items = omega (arith, i.count, c.loop-at-test.true)
    in
    let Q = λ (tasks : Tasks _ _ _) (t : Task _ _). IsReadyIf views g.S.Reader.Read.remaining
    (g.C.Clock.may_show tasks.clock.now) (IsDue (g.C.Clock.may_show tasks.clock.now)
    tasks.limit true) t in
    let goes = c.ask.ensures.goes true (inr refl) in
    record {
      tasks = i.tasks;
      failed = i.failed;
      stopped = i.stopped;
      all = i.all;
      count = length-set now.started.items c.loop-at.at c.ask.new.task ∙ i.count;
      asked = subst (λ (ts : List (Task _ _)). All WasAskedTask ts)
          (sym (take_more_set now.started.items c.loop-at.at c.ask.new.task some))
          (All-push WasAskedTask (take c.loop-at.at now.started.items) c.ask.new.task i.asked
          c.ask.ensures.asked);
      ready = All-set (Q c.args.self.now.tasks) now.started.items c.loop-at.at c.ask.new.task
          (subst (λ (tasks : Tasks _ _ _). Q tasks c.ask.new.task) i.tasks
          (c.ask.ensures.ready, goes.due)) i.ready;
      goes = goes_on i.tasks i.goes (goes_at now.tasks true c.loop-at.at now.started.items
          c.index_mut.result.now c.ask.new.task c.index_mut.ensures.value some goes);
    }

pub returns-else-self-clause-goes : goal.returns-else-self-clause-goes
returns-else-self-clause-goes g c =
    let self = c.args.self.now in
    goes_nowhere self.tasks self.stopped self.started.items c.args.sys.now c.args.pool.now.given

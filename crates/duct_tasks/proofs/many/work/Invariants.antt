use Rattle.std.proofs.Common.{◌≡◌, All}
use Rattle.duct_tasks.proofs.Common.{views_of, Goes}
use Rattle.duct_tasks.specs.Tasks.{IsDue, IsReadyIf}
use Rattle.duct_tasks.proofs.many.work.Given as goal

abbrev pub invariant-loop : goal.invariant-loop
invariant-loop g l = record {
  can : (goal.iterator-loop g).can_next l.iterator';
  ends : (goal.iterator-loop g).is_finite l.iterator';
  tasks : l.crew.tasks ≡ l.initial.crew.tasks;
  ready : All (IsReadyIf (views_of g.S.System g.S.End.Numbered g.S.Child.Child g.S.Feed.Job g.S.Drain.Job) g.S.Reader.Read.remaining
      (g.C.Clock.may_show l.crew.tasks.clock.now) (IsDue (g.C.Clock.may_show l.crew.tasks.clock.now) l.crew.tasks.limit l.crew.stopped)) l.crew.started.items;
  goes : Goes (views_of g.S.System g.S.End.Numbered g.S.Child.Child g.S.Feed.Job g.S.Drain.Job) g.S.System.may_read g.S.Reader.Read.remaining g.H.Hook.allows g.H.Hook.refuses
      g.C.Clock.may_show l.initial.crew.tasks l.initial.crew.stopped l.crew.stopped
      l.initial.crew.started.items l.crew.started.items l.initial.sys l.sys l.initial.pool.given
      l.pool.given;
}

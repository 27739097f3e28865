use Rattle.std.proofs.Common.{◌≡◌, All, length}
use Rattle.duct_tasks.proofs.Common.{views_of, Goes}
use Rattle.duct_tasks.specs.Tasks.{IsDue, IsReadyIf}
use Rattle.duct_tasks.proofs.crew.Crew+S+End+H+C+Running+S+S+Reader.start_more.Given as goal

abbrev pub invariant-loop-at : goal.invariant-loop-at
invariant-loop-at g l = record {
  tasks : l.self.tasks ≡ l.initial.self.tasks;
  ready : All (IsReadyIf (views_of g.S.System g.S.End.Numbered g.S.Child.Child g.S.Feed.Job g.S.Drain.Job) g.S.Reader.Read.remaining
      (g.C.Clock.may_show l.self.tasks.clock.now) (IsDue (g.C.Clock.may_show l.self.tasks.clock.now) l.self.tasks.limit l.self.stopped)) l.self.started.items;
  count : length l.self.started.items ≡ l.at;
  all : length l.initial.self.tasks.all.now ≡ l.at-end;
  goes : Goes (views_of g.S.System g.S.End.Numbered g.S.Child.Child g.S.Feed.Job g.S.Drain.Job) g.S.System.may_read g.S.Reader.Read.remaining g.H.Hook.allows g.H.Hook.refuses
      g.C.Clock.may_show l.initial.self.tasks l.initial.self.stopped l.self.stopped
      l.initial.self.started.items l.self.started.items l.initial.sys l.sys l.initial.pool.given
      l.pool.given;
}

use Rattle.std.proofs.Common.{◌≡◌, length}
use Rattle.duct_tasks.proofs.Common.{views_of}
use Rattle.duct_tasks.specs.Services.{Goes}
use Rattle.duct_tasks.proofs.keeper.turn_all.Given as goal

abbrev pub invariant-loop-at : goal.invariant-loop-at
invariant-loop-at g l = record {
  all : l.all ≡ l.services.all.now;
  count : length l.kept.items ≡ l.at-end;
  same : length l.kept.items ≡ length l.initial.kept.items;
  goes : Goes (views_of g.S.System g.S.End.Numbered g.S.Child.Child g.S.Feed.Job g.S.Drain.Job)
      g.C.Clock.may_show l.services g.H.Hook.allows g.H.Hook.refuses (λ said. l.stops ≡ said)
      (l.initial.sys, l.initial.pool) l.initial.kept.items (l.sys, l.pool) l.kept.items;
}

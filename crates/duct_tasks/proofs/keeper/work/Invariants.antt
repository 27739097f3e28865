use Rattle.std.proofs.Common.{◌≡◌, length, true}
use Rattle.duct_tasks.proofs.Common.{views_of}
use Rattle.duct_tasks.specs.Services.{Goes}
use Rattle.duct_tasks.proofs.keeper.work.Given as goal

abbrev pub invariant-loop : goal.invariant-loop
invariant-loop g l = record {
  can : (goal.iterator-loop g).can_next l.iterator';
  ends : (goal.iterator-loop g).is_finite l.iterator';
  said : l.stops ≡ true → g.F.Fn.post l.stop tt true;
  count : length l.kept.items ≡ length l.initial.kept.items;
  goes : Goes (views_of g.S.System g.S.End.Numbered g.S.Child.Child g.S.Feed.Job g.S.Drain.Job)
      g.C.Clock.may_show l.services g.H.Hook.allows g.H.Hook.refuses (g.F.Fn.post l.stop tt)
      (l.initial.sys, l.initial.pool) l.initial.kept.items (l.sys, l.pool) l.kept.items;
}

-- What is polled stays as it was but for its results; after the first turn the stop function has
-- said no.
use Rattle.std.proofs.Common.{◌≡◌, ◌⊎◌, false}
use Rattle.duct_tasks.proofs.Common.{views_of, StaysSame, AreSignalled}
use Rattle.duct_tasks.specs.Groups.{Tries, processes_of}
use Rattle.duct_tasks.proofs.watch.watch.Given as goal

abbrev pub invariant-loop : goal.invariant-loop
invariant-loop g l =
    let views = views_of g.S.System g.S.End.Numbered g.S.Child.Child g.S.Feed.Job g.S.Drain.Job in
    record {
      can : (goal.iterator-loop g).can_next l.iterator';
      ends : (goal.iterator-loop g).is_finite l.iterator';
      stays : StaysSame views l.initial.running l.running;
      processes : processes_of views l.running ≡ processes_of views l.initial.running;
      signalled : (tries : Tries) → AreSignalled views tries l.initial.running
          → AreSignalled views tries l.running;
      looked : (l.running ≡ l.initial.running) ⊎ g.F.Fn.post l.stop tt false;
    }

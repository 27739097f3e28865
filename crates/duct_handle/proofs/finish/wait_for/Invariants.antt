-- What is polled keeps the numbers that it had at first.
use Rattle.duct_handle.proofs.Common.{Stays}
use Rattle.duct_handle.proofs.finish.wait_for.Given as goal

abbrev pub invariant-loop : goal.invariant-loop
invariant-loop g l = record {
  can : (goal.iterator-loop g).can_next l.iterator';
  ends : (goal.iterator-loop g).is_finite l.iterator';
  stays : Stays g.S.Child.Child.child_view g.S.Feed.Job.job_view g.S.Drain.Job.job_view
      l.initial.running l.running;
}

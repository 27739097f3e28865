-- The ends so far, those that are left, and the room for them.
use Rattle.std.proofs.Common.{◌≡◌, ◌+◌, ◌≤◌, ◌++◌, length, map, vec_capacity, sum_by}
use Rattle.std.specs.Vec.Iter.{into_iter_items, into_iter_len}
use Rattle.duct_tasks.proofs.Common.{running_of, Ended}
use Rattle.duct_tasks.proofs.task.ends_of.Given as goal

abbrev pub invariant-loop : goal.invariant-loop
invariant-loop g l = record {
  ends : l.fn.tasks.items ≡ map (λ e. Ended e) l.room.items ++ into_iter_items l.tasks;
  none : sum_by running_of (into_iter_items l.tasks) ≡ 0;
  left : into_iter_len l.tasks + l.counter ≡ l.end;
  many : into_iter_len l.tasks ≡ length (into_iter_items l.tasks);
  room : length l.room.items + length (into_iter_items l.tasks) ≤ vec_capacity l.room;
}

use Rattle.std.proofs.Common.{◌≡◌, ◌≤◌, All, length, vec_capacity}
use Rattle.duct_tasks.specs.Services.{IsFresh}
use Rattle.duct_tasks.proofs.keeper.before_starts.Given as goal

abbrev pub invariant-loop : goal.invariant-loop
invariant-loop g l = record {
  count : length l.kept.items ≡ l.counter;
  room : l.count ≤ vec_capacity l.kept;
  fresh : All IsFresh l.kept.items;
}

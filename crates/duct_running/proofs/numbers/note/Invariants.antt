-- The numbers so far are those of the first items, and there is room for the others.
use Rattle.std.proofs.Common.{◌≡◌, ◌≤◌, length, map, take, vec_capacity}
use Rattle.duct_running.proofs.numbers.note.Given as goal

abbrev pub invariant-loop-item : goal.invariant-loop-item
invariant-loop-item g l = record {
  noted : l.numbers.items ≡ map g.N.Numbered.number_of (take l.item-index l.items);
  room : length l.items ≤ vec_capacity l.numbers;
}

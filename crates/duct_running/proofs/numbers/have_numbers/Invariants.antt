-- The first items have these numbers.
use Rattle.std.proofs.Common.{◌≡◌, length, map, take}
use Rattle.duct_running.proofs.numbers.have_numbers.Given as goal

abbrev pub invariant-loop-at : goal.invariant-loop-at
invariant-loop-at g l = record {
  same : take l.at (map g.N.Numbered.number_of l.items) ≡ take l.at l.numbers;
  many : length l.items ≡ length l.numbers;
  end : l.at-end ≡ length l.items;
}

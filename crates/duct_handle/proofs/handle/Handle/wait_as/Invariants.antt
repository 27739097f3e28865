-- The token belongs to the handle, and still knows what it knew.
use Rattle.std.proofs.Common.{◌≡◌, IfSome, Some}
use Rattle.duct_handle.proofs.handle.Handle.wait_as.Given as goal

abbrev pub invariant-loop : goal.invariant-loop
invariant-loop g l = record {
  can : (goal.iterator-loop g).can_next l.iterator';
  ends : (goal.iterator-loop g).is_finite l.iterator';
  cell : l.seen.cell ≡ l.self.cell;
  kept : IfSome l.initial.seen.known (λ known. l.seen.known ≡ Some known);
}

-- The first ids were copied, and there is room for the others.
use Rattle.std.proofs.Common.{◌≡◌, ◌≤◌, length, take, vec_capacity}
use Rattle.duct_handle.proofs.buffers.copy_ids.Given as goal

abbrev pub invariant-loop-id : goal.invariant-loop-id
invariant-loop-id l = record {
  copied : l.ids.items ≡ take l.id-index l.from;
  room : length l.from ≤ vec_capacity l.ids;
}

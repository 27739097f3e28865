-- The ids so far are those of the children so far, and there is room for the others.
use Rattle.std.proofs.Common.{◌≡◌, ◌≤◌, length, map, take, vec_capacity}
use Rattle.duct_running.proofs.running.note_ids.Given as goal

abbrev pub invariant-loop-child : goal.invariant-loop-child
invariant-loop-child g l = record {
  ids : l.ids.items ≡ map (λ c. c.process) (map g.C.Child.child_view (take l.child-index l.children));
  room : length l.children ≤ vec_capacity l.ids;
}

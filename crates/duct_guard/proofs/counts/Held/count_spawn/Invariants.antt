-- The streams that are left complete what is held.
use Rattle.std.proofs.Common.{◌≡◌, drop}
use Rattle.duct_guard.proofs.Common.{ends_of, without_ends}
use Rattle.duct_guard.proofs.counts.Held.count_spawn.Given as goal

abbrev pub invariant-loop-stream : goal.invariant-loop-stream
invariant-loop-stream g l = record {
  ends : without_ends l.self (ends_of (drop l.stream-index l.streams)) ≡ without_ends l.fn.self (ends_of l.fn.streams);
  children : l.self.children ≡ l.fn.self.children;
}

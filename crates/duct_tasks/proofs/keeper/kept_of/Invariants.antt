-- What has come so far, the services that are left, and the room for what comes of them.
use Rattle.std.proofs.Common.{◌≡◌, ◌+◌, ◌≤◌, ◌++◌, All, List, length, vec_capacity}
use Rattle.std.specs.List.{AllZip}
use Rattle.std.specs.Vec.Iter.{into_iter_items, into_iter_len}
use Rattle.duct_tasks.specs.Services.{CameTo, HasLeft}
use Rattle.duct_tasks.specs.declared.service.Service.{Service}
use Rattle.duct_tasks.proofs.keeper.kept_of.Given as goal

abbrev pub invariant-loop : goal.invariant-loop
invariant-loop g l = record {
  came : (done : List (Service _)) × (l.fn.services.items ≡ done ++ into_iter_items l.services)
      × AllZip CameTo done l.room.items;
  have_left : All HasLeft (into_iter_items l.services);
  left : into_iter_len l.services + l.counter ≡ l.end;
  many : into_iter_len l.services ≡ length (into_iter_items l.services);
  room : length l.room.items + length (into_iter_items l.services) ≤ vec_capacity l.room;
}

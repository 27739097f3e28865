-- All entries taken off the end are closes.
use Rattle.std.proofs.Common.{◌≡◌, length, map}
use Rattle.duct_system.specs.EntryView.{entry_view}
use Rattle.duct_tasks.specs.FailedRequest.{last_asked}
use Rattle.duct_tasks.proofs.request.last_asked.Given as goal

abbrev pub invariant-loop-last : goal.invariant-loop-last
invariant-loop-last l = last_asked (map entry_view l.rest) ≡ last_asked (map entry_view l.entries)

abbrev pub decreases-loop-last : goal.decreases-loop-last
decreases-loop-last l = length l.rest

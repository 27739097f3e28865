-- All entries before the place are the same.
use Rattle.std.proofs.Common.{◌≡◌, ◌≤◌, ◌-◌, length, map, take}
use Rattle.duct_system.specs.EntryView.{entry_view}
use Rattle.duct_replay.proofs.judgement.first_difference.Given as goal

abbrev pub invariant-loop-place : goal.invariant-loop-place
invariant-loop-place l =
    (l.place ≤ length l.recorded)
    × ((l.place ≤ length l.made)
    × (take l.place (map entry_view l.made) ≡ take l.place (map entry_view l.recorded)))

abbrev pub decreases-loop-place : goal.decreases-loop-place
decreases-loop-place l = length l.recorded - l.place

use Rattle.std.proofs.Common.{◌≡◌, map, length}
use Rattle.duct_system.specs.EntryView.{entry_view}
use Rattle.duct_system.specs.Origin.{origin}
use Rattle.duct_script.proofs.checker.origin.Given as goal

abbrev pub invariant-loop-last : goal.invariant-loop-last
invariant-loop-last l = origin (map entry_view l.left) l.number ≡ origin (map entry_view l.entries) l.fn.number

abbrev pub decreases-loop-last : goal.decreases-loop-last
decreases-loop-last l = length l.left

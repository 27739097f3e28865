use Rattle.std.proofs.Common.{◌≡◌, map, take}
use Rattle.duct_system.specs.EntryView.{entry_view}
use Rattle.duct_system.proofs.copy.copies_of_entries.Given as goal

abbrev pub invariant-loop-entry : goal.invariant-loop-entry
invariant-loop-entry l = map entry_view l.copies.items ≡ map entry_view (take l.entry-index l.entries)

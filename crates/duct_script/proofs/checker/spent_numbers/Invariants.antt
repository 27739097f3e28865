use Rattle.std.proofs.Common.{◌≡◌, ◌++◌, map, drop}
use Rattle.duct_system.specs.EntryView.{entry_view}
use Rattle.duct_system.specs.Ledger.{spent_numbers}
use Rattle.duct_script.proofs.checker.spent_numbers.Given as goal

abbrev pub invariant-loop-entry : goal.invariant-loop-entry
invariant-loop-entry l = l.numbers.items ++ spent_numbers (map entry_view (drop l.entry-index l.entries)) ≡ spent_numbers (map entry_view l.entries)

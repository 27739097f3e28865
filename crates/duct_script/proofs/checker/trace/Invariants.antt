use Rattle.std.proofs.Common.{◌≡◌, ◌++◌, map, drop}
use Rattle.duct_system.specs.EntryView.{entry_view}
use Rattle.duct_system.specs.Trace.{trace}
use Rattle.duct_script.proofs.checker.trace.Given as goal

abbrev pub invariant-loop-entry : goal.invariant-loop-entry
invariant-loop-entry l = map (λ e. entry_view e.now) l.traced.items ++ trace (map entry_view (drop l.entry-index l.entries)) ≡ trace (map entry_view l.entries)

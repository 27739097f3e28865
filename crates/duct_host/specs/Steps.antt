-- Steps that change one part of what a host keeps.
use Rattle.std.specs.Prelude.{◌≡◌, ◌≤◌}
use Rattle.duct_system.specs.Journal.{JournalView}

-- only the count of numbers has changed, and it has not decreased
abbrev pub OnlyCounts : JournalView → JournalView → Type 0
OnlyCounts old new = (new ≡ record old { next = new.next }) × (old.next ≤ new.next)

-- Where an end comes from, according to the journal.
use Rattle.std.specs.Prelude.{ℕ, List, [], ◌∷◌, ◌==◌, Ok, reverse, if◌then◌else◌}
use Rattle.duct_system.specs.EntryView.{EntryView, Pipe, OpenRead, Create, Duplicate, Parent}
use Rattle.duct_system.specs.declared.system.Side.{Side}

-- the end with this number, of a pipe or a file; the parent's own stream; or the end with this
-- number, which no entry returned
pub data Origin : Type 0 where
  Opened : ℕ → Origin
  ParentOf : Side → Origin
  Lent : ℕ → Origin

-- as `origin`, with the entries from the last to the first
abbrev pub origin_before : List EntryView → ℕ → Origin
origin_before [] number = Lent number
origin_before (Pipe (Ok (reader, writer)) ∷ entries) number =
    if number == reader then Opened number else if number == writer then Opened number
    else origin_before entries number
origin_before (OpenRead path (Ok end) ∷ entries) number =
    if number == end then Opened number else origin_before entries number
origin_before (Create path (Ok end) ∷ entries) number =
    if number == end then Opened number else origin_before entries number
origin_before (Parent side (Ok end) ∷ entries) number =
    if number == end then ParentOf side else origin_before entries number
origin_before (Duplicate lent (Ok end) ∷ entries) number =
    if number == end then origin_before entries lent else origin_before entries number
origin_before (entry ∷ entries) number = origin_before entries number

-- where the end with this number comes from: back through the duplicates to what opened it
abbrev pub origin : List EntryView → ℕ → Origin
origin entries number = origin_before (reverse entries) number

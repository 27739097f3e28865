-- The children and the workers that the entries of a journal started.
use Rattle.std.specs.Prelude.{ℕ, List, [], ◌∷◌, Ok, flat_map}
use Rattle.duct_system.specs.EntryView.{EntryView, Spawn, Feed, Drain}

-- the number of the child that an entry started
abbrev pub child_by : EntryView → List ℕ
child_by (Spawn spec io (Ok number)) = number ∷ []
child_by _ = []

-- the number of the input worker that an entry started
abbrev pub feed_by : EntryView → List ℕ
feed_by (Feed number bytes (Ok done)) = number ∷ []
feed_by _ = []

-- the number of the capture worker that an entry started
abbrev pub drain_by : EntryView → List ℕ
drain_by (Drain number (Ok done)) = number ∷ []
drain_by _ = []

-- the children started, in order
abbrev pub children_in : List EntryView → List ℕ
children_in entries = flat_map child_by entries

-- the input workers started, in order
abbrev pub feeds_in : List EntryView → List ℕ
feeds_in entries = flat_map feed_by entries

-- the capture workers started, in order
abbrev pub drains_in : List EntryView → List ℕ
drains_in entries = flat_map drain_by entries

-- The numbers of the ends that the entries of a journal got and spent.
use Rattle.std.specs.Prelude.{ℕ, ◌-◌, ◌≤◌, List, [], ◌∷◌, ◌≡◌, ◌==◌, length, flat_map, count_by, Ok}
use Rattle.duct_system.specs.EntryView.{EntryView, Pipe, OpenRead, Create, Duplicate, Parent, Spawn, Feed, Drain, Reader, Close}
use Rattle.duct_system.specs.Streams.{ends_of}

-- the numbers of the ends that an entry's request returned
abbrev pub opened_by : EntryView → List ℕ
opened_by (Pipe (Ok (reader, writer))) = reader ∷ writer ∷ []
opened_by (OpenRead path (Ok number)) = number ∷ []
opened_by (Create path (Ok number)) = number ∷ []
opened_by (Duplicate lent (Ok number)) = number ∷ []
opened_by (Parent side (Ok number)) = number ∷ []
opened_by _ = []

-- the numbers of the ends that an entry's request took, whatever its result is
abbrev pub spent_by : EntryView → List ℕ
spent_by (Spawn spec io answer) = ends_of io
spent_by (Feed number bytes answer) = number ∷ []
spent_by (Drain number answer) = number ∷ []
spent_by (Reader number) = number ∷ []
spent_by (Close number) = number ∷ []
spent_by _ = []

-- all numbers got, in order
abbrev pub opened_numbers : List EntryView → List ℕ
opened_numbers entries = flat_map opened_by entries

-- all numbers spent, in order
abbrev pub spent_numbers : List EntryView → List ℕ
spent_numbers entries = flat_map spent_by entries

-- how often a number occurs in a list
abbrev pub count_of : ℕ → List ℕ → ℕ
count_of number numbers = count_by (λ other. other == number) numbers

-- the numbers spent are the numbers got, in some order, each number once
abbrev pub IsBalanced : List EntryView → Type 0
IsBalanced entries =
    (number : ℕ)
    → (count_of number (spent_numbers entries) ≡ count_of number (opened_numbers entries))
    × (count_of number (opened_numbers entries) ≤ 1)

-- how many ends were got and are not yet spent
abbrev pub open_count : List EntryView → ℕ
open_count entries = length (opened_numbers entries) - length (spent_numbers entries)

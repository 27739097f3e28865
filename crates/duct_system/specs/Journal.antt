-- What contracts see of a system's journal, and how a call changes it.
use Rattle.std.specs.Prelude.{ℕ, ◌+◌, ◌<◌, ◌≤◌, ◌≡◌, ◌≢◌, ◌⊎◌, List, [], ◌∷◌, ◌++◌, Ok, Err, length, map}
use Rattle.duct_system.specs.EntryView.{EntryView, Spawn}
use Rattle.duct_system.specs.SpecView.{SpecView}
use Rattle.duct_system.specs.Streams.{ends_of, stream_of}
use Rattle.duct_system.specs.declared.system.Fault.{Fault}
use Rattle.duct_system.specs.declared.system.Kind.TheVariants.{OutOfMemory}
use Rattle.duct_system.specs.declared.system.Stdio.{Stdio}

-- its entries, oldest first; how many were ever added, also those that were cleared; the number
-- below which all numbers so far are; and how many more entries can be added without an allocation
pub record JournalView : Type 0 where
  pub entries : List EntryView
  pub added : ℕ
  pub next : ℕ
  pub room : ℕ

-- an entry was added; the room is at least the old one, plus the ends that were returned, minus the
-- ends that were taken
pub record Adds (entry : EntryView) (got given : ℕ) (old new : JournalView) : Type 0 where
  pub entries_are : new.entries ≡ old.entries ++ entry ∷ []
  pub added_is : new.added ≡ old.added + 1
  pub next_grows : old.next ≤ new.next
  pub room_is : old.room + got ≤ new.room + given

-- no entry was added, and the numbers and the room have not fallen
pub record AddsNothing (old new : JournalView) : Type 0 where
  pub entries_are : new.entries ≡ old.entries
  pub added_is : new.added ≡ old.added
  pub next_grows : old.next ≤ new.next
  pub room_grows : old.room ≤ new.room

-- a number that was given between the two journals
pub record IsNew (old new : JournalView) (number : ℕ) : Type 0 where
  pub after_old : old.next ≤ number
  pub below_new : number < new.next

-- a call that returns no end and takes none
abbrev pub Asks : EntryView → JournalView → JournalView → Type 0
Asks entry old new = Adds entry 0 0 old new

-- a call that returns the end with this number
abbrev pub GetsEnd : EntryView → ℕ → JournalView → JournalView → Type 0
GetsEnd entry number old new = Adds entry 1 0 old new × IsNew old new number

-- a call that returns the two ends of a pipe
abbrev pub GetsEnds : EntryView → ℕ → ℕ → JournalView → JournalView → Type 0
GetsEnds entry one other old new =
    Adds entry 2 0 old new × IsNew old new one × IsNew old new other × (one ≢ other)

-- a call that takes this many ends
abbrev pub GivesEnds : EntryView → ℕ → JournalView → JournalView → Type 0
GivesEnds entry count old new = Adds entry 0 count old new

-- a call that takes this many ends and fails: its entry was added; or it takes none, the fault is
-- OutOfMemory, and no entry was added
abbrev pub IsRefused : EntryView → ℕ → Fault → JournalView → JournalView → Type 0
IsRefused entry count fault old new =
    Adds entry 0 count old new ⊎ ((count ≡ 0) × AddsNothing old new × (fault.kind ≡ OutOfMemory))

-- the start of a child with this number, by its spec and its streams
abbrev pub StartsChild : {E : Type 0} → (E → ℕ) → SpecView → List (Stdio E) → ℕ → JournalView
    → JournalView → Type 0
StartsChild number_of spec io number old new =
    GivesEnds (Spawn spec (map (stream_of number_of) io) (Ok number)) (length (ends_of io)) old new
    × IsNew old new number

-- the start of a child that was refused with this fault
abbrev pub RefusesChild : {E : Type 0} → (E → ℕ) → SpecView → List (Stdio E) → Fault → JournalView
    → JournalView → Type 0
RefusesChild number_of spec io fault old new =
    IsRefused (Spawn spec (map (stream_of number_of) io) (Err fault)) (length (ends_of io)) fault old
    new

-- the entries were cleared; the count of added entries stays, and the numbers and the room have not
-- fallen
pub record IsCleared (old new : JournalView) : Type 0 where
  pub entries_are : new.entries ≡ []
  pub added_is : new.added ≡ old.added
  pub next_grows : old.next ≤ new.next
  pub room_grows : old.room ≤ new.room

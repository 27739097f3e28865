-- What contracts see of a replay and of what it returns, and how a request changes it.
use Rattle.std.specs.Prelude.{ℕ, Bool, true, false, Ok, Err, Some, None, ◌≡◌, ◌≢◌, ◌⊎◌, ◌+◌, ◌<◌, ◌≤◌, ◌^◌, option_copied, option_map, Option, Result, IfErr, IfOk, IsErrAnd, List, [], ◌∷◌, ◌++◌, ◌-◌, length, take, slice_get, min, drop, if◌then◌else◌}
use Rattle.std.specs.Borrow.{Bor}
use Rattle.duct_system.specs.EntryView.{EntryView, answer_of, entry_view}
use Rattle.duct_system.specs.declared.system.Entry.{Entry}
use Rattle.duct_system.specs.declared.system.Fault.{Fault}
use Rattle.duct_system.specs.Journal.{GetsEnd, IsRefused, JournalView}
use Rattle.duct_replay.specs.RecordingView.{RecordingView, Shared, bytes_of, had, no_memory, unrecorded}
use Rattle.std.specs.IoError.{error_kind}
use Rattle.std.specs.declared.io.Error.{Error}
use Rattle.std.specs.declared.io.ErrorKind.TheVariants.{OutOfMemory, Other}
use Rattle.duct_system.specs.Child.{ChildView}
use Rattle.duct_system.specs.Job.{JobView}
use Rattle.duct_system.specs.declared.system.Said.TheVariants as said
use Rattle.duct_replay.specs.declared.replayed.ReplayChild.{ReplayChild}
use Rattle.duct_replay.specs.declared.replayed.ReplayDrain.{ReplayDrain}
use Rattle.duct_replay.specs.declared.replayed.ReplayFeed.{ReplayFeed}
use Rattle.duct_replay.specs.declared.replayed.ReplayReader.{ReplayReader}

-- a number that can be given next
pub record IsNext (next number : ℕ) : Type 0 where
  pub unused : next ≤ number
  pub countable : number + 1 < 2 ^ 64

-- the number of a result, if it has one, can be given next
abbrev pub FitsNumber : ℕ → Result ℕ Fault → Type 0
FitsNumber next (Ok number) = IsNext next number
FitsNumber next (Err fault) = Unit {0}

-- so can the two numbers of a pipe, which are not the same
abbrev pub FitsPipe : ℕ → Result (ℕ × ℕ) Fault → Type 0
FitsPipe next (Ok (reader, writer)) = IsNext next reader × IsNext next writer × (reader ≢ writer)
FitsPipe next (Err fault) = Unit {0}

-- the same as for a number, and it isn't OutOfMemory
abbrev pub FitsChild : ℕ → Result ℕ Fault → Type 0
FitsChild next answer = FitsNumber next answer × (answer ≢ Err no_memory)

-- each result can be returned
abbrev pub Fits : {T : Type 0} → Result T Fault → Type 0
Fits answer = Unit {0}

-- a request returns what the next entry has for it (true), or fails with Other where the next entry
-- is not this request with a result that fits (false)
abbrev pub Answers : {T : Type 0} → (Result T Fault → EntryView) → (Result T Fault → Type 0)
    → Option EntryView → Result T Fault → Bool → Type 0
Answers entry fits next answer true = (next ≡ Some (entry answer)) × fits answer
Answers {T} entry fits next answer false =
    (answer ≡ Err unrecorded) × ((other : Result T Fault) → fits other → next ≢ Some (entry other))

-- whether an entry is the one that is recorded next
abbrev pub IsToldRight : Bool → EntryView → Option EntryView → Type 0
IsToldRight true entry next = next ≡ Some entry
IsToldRight false entry next = next ≢ Some entry

-- what was found for a request: a result that fits, and whether the next entry is the request with
-- it
pub record Finds {T : Type 0} (entry : Result T Fault → EntryView) (fits : Result T Fault → Type 0)
    (next : Option EntryView) (answer : Result T Fault) (agrees : Bool) : Type 0 where
  pub answers : Answers entry fits next answer agrees
  pub has_fit : fits answer
  pub told : IsToldRight agrees (entry answer) next

-- the fault where there was no memory to compare what was recorded: it isn't the recorded one
abbrev pub IsLost : {T : Type 0} → (Result T Fault → EntryView) → Option EntryView → Fault → Type 0
IsLost {T} entry next fault =
    (next ≢ Some (entry (Err fault)))
    × ((fault ≡ no_memory)
    ⊎ ((fault ≡ unrecorded)
    × ((answer : Result T Fault) → answer ≢ Err no_memory → next ≢ Some (entry answer))))

-- the entry that is recorded next as contracts see it
abbrev pub next_view : Option (Bor Entry) → Option EntryView
next_view next = option_map entry_view (option_copied next)

-- the recording; the place of the first entry that differs, if one does; and the journal
pub record ReplayView : Type 0 where
  pub recording : RecordingView
  pub difference : Option ℕ
  pub journal : JournalView

-- the entry at this place, as long as nothing differs
abbrev pub entry_at : List EntryView → ℕ → Option ℕ → Option EntryView
entry_at recorded place None = slice_get recorded place
entry_at recorded place (Some difference) = None

-- the entry that is recorded next
abbrev pub next_of : ReplayView → Option EntryView
next_of replay = entry_at replay.recording.entries replay.journal.added replay.difference

-- the place of the first difference after one more entry, which agrees or doesn't
abbrev pub difference_after : Bool → ℕ → Option ℕ → Option ℕ
difference_after agrees place (Some difference) = Some difference
difference_after true place None = None
difference_after false place None = Some place

-- a replay after one more entry, which agrees or doesn't
abbrev pub noted : Bool → EntryView → ReplayView → ReplayView
noted agrees entry replay = record replay {
  difference = difference_after agrees replay.journal.added replay.difference;
  journal = record replay.journal {
    entries = replay.journal.entries ++ entry ∷ [];
    added = replay.journal.added + 1;
    room = replay.journal.room - 1;
  };
}

-- the recording stays, and so does the first difference; there is one only at the entry that was to
-- come next
pub record Steps (old new : ReplayView) : Type 0 where
  pub recording_is : new.recording ≡ old.recording
  pub difference_is : (new.difference ≡ old.difference)
      ⊎ ((old.difference ≡ None) × (new.difference ≡ Some old.journal.added))

-- a request returns what is recorded next for it, and fails with Other if that is another entry
pub record Replays {T : Type 0} (entry : Result T Fault → EntryView)
    (fits : Result T Fault → Type 0) (old : ReplayView) (answer : Result T Fault)
    (new : ReplayView) : Type 0 where
  pub answers : (agrees : Bool) × Answers entry fits (next_of old) answer agrees
  pub steps : Steps old new

-- the same, or it fails with OutOfMemory
abbrev pub MayReplay : {T : Type 0} → (Result T Fault → EntryView) → (Result T Fault → Type 0)
    → ReplayView → Result T Fault → ReplayView → Type 0
MayReplay entry fits old answer new =
    Replays entry fits old answer new ⊎ ((answer ≡ Err no_memory) × Steps old new)

-- a request with such entries does that, and returned this end or failed with this fault
pub record ReplaysEnd {E : Type 0} (number_of : E → ℕ) (entry : Result ℕ Fault → EntryView)
    (old : ReplayView) (made : Result E Fault) (new : ReplayView) : Type 0 where
  pub ok : IfOk made (λ end.
      GetsEnd (entry (Ok (number_of end))) (number_of end) old.journal new.journal)
  pub err : IfErr made (λ fault. IsRefused (entry (Err fault)) 0 fault old.journal new.journal)
  pub replayed : MayReplay entry (FitsNumber old.journal.next) old (answer_of number_of made) new

-- the entries before this place are the recorded ones, and the entry there is not
pub record DiffersAt (place : ℕ) (recorded asked : List EntryView) : Type 0 where
  pub within : place < length asked
  pub same : take place asked ≡ take place recorded
  pub other : slice_get asked place ≢ slice_get recorded place

-- all entries are the first of the recording, or they differ first at this place
abbrev pub Agrees : List EntryView → List EntryView → Option ℕ → Type 0
Agrees recorded asked None = asked ≡ take (length asked) recorded
Agrees recorded asked (Some place) = DiffersAt place recorded asked

-- the same of all entries that were ever added to a journal: those that were cleared, and then
-- those that it has
abbrev pub Retraces : List EntryView → List EntryView → ℕ → Option ℕ → Type 0
Retraces recorded entries added difference =
    (cleared : List EntryView)
    × (length cleared + length entries ≡ added)
    × Agrees recorded (cleared ++ entries) difference

-- a child; its id is its number, at most 2 ^ 32 - 1
abbrev pub child_view : ReplayChild → ChildView
child_view child = record {
  number = child.number;
  process = min child.number (2 ^ 32 - 1);
  leads = false;
  polls = child.polls;
  last = child.last;
  ending = child.ending;
  orders = child.orders.items;
}

-- a worker that writes
abbrev pub feed_view : ReplayFeed → JobView (Unit {0})
feed_view feed = record {
  number = feed.number;
  polls = feed.polls;
  kept = if feed.is_done then said.Done tt else said.Running;
}

-- a worker that reads
abbrev pub drain_view : ReplayDrain → JobView Shared
drain_view drain = record { number = drain.number; polls = drain.polls; kept = drain.kept.value }

-- the bytes that are left, if it has bytes
abbrev pub left_of : ReplayReader → Option (List ℕ)
left_of reader = option_map (λ shared. drop reader.given (bytes_of shared)) (had reader.bytes)

-- a reader of the end with this number, of which nothing is read
pub record IsUnread (number : ℕ) (reader : ReplayReader) : Type 0 where
  pub number_is : reader.number ≡ number
  pub given_is : reader.given ≡ 0

-- a read into so much room returned how many bytes it gave, of which so many were given before: as
-- many as are left and fit; or it failed with Other, where none are recorded, or with OutOfMemory,
-- where they could have no further owner
abbrev pub ReadsOf : Result (Option Shared) Fault → ℕ → ℕ → Result ℕ Error → Type 0
ReadsOf (Ok (Some bytes)) given room result =
    result ≡ Ok (min (length (drop given (bytes_of bytes))) room)
ReadsOf (Ok None) given room result = IsErrAnd result (λ error. error_kind error ≡ Other)
ReadsOf (Err fault) given room result = IsErrAnd result (λ error. error_kind error ≡ OutOfMemory)

-- the bytes that were found are these, or they could have no further owner
abbrev pub HasFound : Option (List ℕ) → Result (Option Shared) Fault → Type 0
HasFound recorded (Ok found) = option_map bytes_of found ≡ recorded
HasFound recorded (Err fault) = fault ≡ no_memory

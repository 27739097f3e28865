-- What is judged: a start of an expression over a replay of some entries.
use Rattle.std.specs.Prelude.{ℕ, ◌<◌, ◌≤◌, Bool, true, false, List, [], ◌≡◌, ◌≢◌, length, take, slice_get, Err, Some, None, Option}
use Rattle.std.specs.List.{list_any}
use Rattle.duct_system.specs.EntryView.{EntryView, Spawn}
use Rattle.duct_system.specs.Journal.{JournalView}
use Rattle.duct_system.specs.Trace.{fault_of}
use Rattle.duct_system.specs.declared.error.Error.{Error}
use Rattle.duct_system.specs.declared.error.Error.TheVariants.{System, Hook, Memory}
use Rattle.duct_system.specs.declared.system.Kind.{Kind}
use Rattle.duct_system.specs.declared.system.Kind.TheVariants.{OutOfMemory}
use Rattle.duct_start.specs.Chain.{Allows, Refuses}
use Rattle.duct_start.specs.Plan.{plan_of_reader}
use Rattle.duct_start.specs.Start.{StartRefused, StartSucceeds}
use Rattle.duct_start.specs.TreeView.{TreeView}
use Rattle.duct_replay.specs.declared.judgement.Verdict.{Verdict}
use Rattle.duct_replay.specs.declared.judgement.Verdict.TheVariants.{Yes, Differs, Ends, GoesOn}

-- a start of a tree whose stdout is read, from one journal to another: it succeeded, or failed with
-- this error
abbrev pub Starts : {E H : Type 0} → Allows H → Refuses H → (E → ℕ) → TreeView E H → JournalView
    → JournalView → Option Error → Type 0
Starts allows refuses number_of tree old new None =
    StartSucceeds allows number_of tree (plan_of_reader tree) old new
Starts allows refuses number_of tree old new (Some error) =
    StartRefused allows refuses number_of tree (plan_of_reader tree) old new error

-- two lists are the same before this place, and differ there unless one of them ends
pub record SameBefore (place : ℕ) (recorded made : List EntryView) : Type 0 where
  pub in_recorded : place ≤ length recorded
  pub in_made : place ≤ length made
  pub same : take place made ≡ take place recorded
  pub other : place < length recorded → place < length made
      → slice_get made place ≢ slice_get recorded place

-- the place that a verdict names, or the end
abbrev pub place_of : Verdict → List EntryView → ℕ
place_of Yes recorded = length recorded
place_of (Differs place) recorded = place
place_of (Ends place) recorded = place
place_of (GoesOn place) recorded = place

-- which of the two lists end at the place of a verdict
abbrev pub EndsThere : Verdict → List EntryView → List EntryView → Type 0
EndsThere Yes recorded made = made ≡ recorded
EndsThere (Differs place) recorded made = (place < length recorded) × (place < length made)
EndsThere (Ends place) recorded made = (place ≡ length recorded) × (place < length made)
EndsThere (GoesOn place) recorded made = (place < length recorded) × (place ≡ length made)

-- this verdict is right for recorded entries, where the start made those
pub record IsRight (verdict : Verdict) (recorded made : List EntryView) : Type 0 where
  pub same : SameBefore (place_of verdict recorded) recorded made
  pub ends : EndsThere verdict recorded made

-- whether a fault is for lack of memory
abbrev pub is_memory : Kind → Bool
is_memory OutOfMemory = true
is_memory _ = false

-- whether the fault of an entry is
abbrev pub lacks_memory : EntryView → Bool
lacks_memory entry = elim (fault_of entry) [ Some fault ↦ is_memory fault.kind | None ↦ false ]

-- whether a start ended for lack of memory
abbrev pub stops_without_memory : Option Error → Bool
stops_without_memory (Some (System fault)) = is_memory fault.kind
stops_without_memory (Some (Hook fault)) = is_memory fault.kind
stops_without_memory (Some Memory) = true
stops_without_memory _ = false

-- a spawn that is recorded with a lack of memory was made with another result
abbrev pub IsLostSpawn : Option EntryView → Option EntryView → Type 0
IsLostSpawn (Some (Spawn spec io (Err fault))) (Some (Spawn other streams answer)) =
    (is_memory fault.kind ≡ true) × (other ≡ spec) × (streams ≡ io)
IsLostSpawn _ _ = ⊥

-- no allocation failed in a start, up to this place: a lack of memory that ended it is recorded
pub record HadMemory (place : ℕ) (recorded made : List EntryView) (error : Option Error)
    : Type 0 where
  pub stops : stops_without_memory error ≡ true → list_any lacks_memory (take place made) ≡ true
  pub spawns : IsLostSpawn (slice_get recorded place) (slice_get made place) → ⊥

-- the verdict on recorded entries, by a start from nothing that made the entries of this journal
pub record Judges {E H : Type 0} (allows : Allows H) (refuses : Refuses H) (number_of : E → ℕ)
    (tree : TreeView E H) (recorded : List EntryView) (verdict : Verdict) (made : JournalView)
    : Type 0 where
  pub error : Option Error
  pub starts : Starts allows refuses number_of tree
      (record { entries = []; added = 0; next = 1; room = 0 }) made error
  pub right : IsRight verdict recorded made.entries
  pub memory : HadMemory (place_of verdict recorded) recorded made.entries error

-- What a guard asked of the system below, by the guard's own journal, and what contracts see of a
-- guard.
use Rattle.std.specs.Prelude.{ℕ, Bool, true, false, ◌&&◌, ◌≡◌, ◌≤◌, ◌+◌, ◌⊎◌, if◌then◌else◌, List, [], ◌∷◌, ◌++◌, length, map, nat_le, take, Ok, Err, Some, IfOk, IfErr, Result}
use Rattle.duct_system.specs.Child.{Answer}
use Rattle.duct_system.specs.EntryView.{EntryView, Environment, OpenRead, Create, Duplicate, Parent, Canonicalize, Spawn, Close}
use Rattle.duct_system.specs.Journal.{JournalView, Asks, GetsEnd, IsRefused}
use Rattle.duct_system.specs.Ledger.{opened_by, spent_by}
use Rattle.duct_system.specs.SpecView.{SpecView, Vars}
use Rattle.duct_system.specs.Trace.{fault_of}
use Rattle.duct_system.specs.declared.system.Fault.{Fault}
use Rattle.duct_system.specs.declared.system.Kind.TheVariants.{OutOfMemory, PermissionDenied}
use Rattle.duct_system.specs.declared.system.Stdio.{Stdio}
use Rattle.duct_guard.specs.Held.{Fits, IsBegun, IsCrew, counts_of, held_after, is_within, with_entry}
use Rattle.duct_guard.specs.Rules.{RequestView, Rules, is_allowed, spawn, read, create, canonicalize, duplicate, parent}
use Rattle.duct_guard.specs.declared.counts.Held.{Held}
use Rattle.duct_guard.specs.declared.requests.EndRequest.{EndRequest}
use Rattle.duct_guard.specs.declared.requests.EndRequest.TheVariants as asks

-- these entries were added, and none was cleared; the room is at least the old one, plus the ends
-- that were returned, minus the ends that were taken
pub record AddsAll (entries : List EntryView) (got given : ℕ) (old new : JournalView) : Type 0 where
  pub entries_are : new.entries ≡ old.entries ++ entries
  pub added_is : new.added ≡ old.added + length entries
  pub next_grows : old.next ≤ new.next
  pub room_is : old.room + got ≤ new.room + given

-- the first of these ends were closed, as many as this room has entries, and nothing else was
-- asked; each close took its own room
abbrev pub ClosesFirst : ℕ → List ℕ → JournalView → JournalView → Type 0
ClosesFirst room numbers old new =
    AddsAll (map Close (take room numbers)) 0 (length (take room numbers)) old new

-- the request of this entry was asked and failed with this fault; or it was not asked, and the ends
-- that it took were closed
abbrev pub SpendsEnds : ℕ → EntryView → Fault → JournalView → JournalView → Type 0
SpendsEnds room entry fault old new =
    IsRefused entry (length (spent_by entry)) fault old new
    ⊎ ClosesFirst room (spent_by entry) old new

-- the path that a request for an end names, or the empty text
abbrev pub path_of : {E : Type 0} → EndRequest E → List ℕ
path_of (asks.Read path) = path.now
path_of (asks.Create path) = path.now
path_of _ = []

-- what a policy is asked about it
abbrev pub asked_of : {E : Type 0} → EndRequest E → RequestView
asked_of (asks.Read path) = read path.now
asked_of (asks.Create path) = create path.now
asked_of (asks.Duplicate end) = duplicate
asked_of (asks.Parent side) = parent side

-- its entry with this answer
abbrev pub end_entry : {E : Type 0} → (E → ℕ) → EndRequest E → Result ℕ Fault → EntryView
end_entry number_of (asks.Read path) answer = OpenRead path.now answer
end_entry number_of (asks.Create path) answer = Create path.now answer
end_entry number_of (asks.Duplicate end) answer = Duplicate (number_of end.now) answer
end_entry number_of (asks.Parent side) answer = Parent side answer

-- a request with such entries returned this end, or failed with this fault
pub record GotEnd {E : Type 0} (number_of : E → ℕ) (entry : Result ℕ Fault → EntryView)
    (made : Result E Fault) (old new : JournalView) : Type 0 where
  pub ok : IfOk made (λ end. GetsEnd (entry (Ok (number_of end))) (number_of end) old new)
  pub err : IfErr made (λ fault. IsRefused (entry (Err fault)) 0 fault old new)

-- a request with such entries returned a value that they show so, or failed with this fault
pub record GotValue {T U : Type 0} (shown : T → U) (entry : Result U Fault → EntryView)
    (made : Result T Fault) (old new : JournalView) : Type 0 where
  pub ok : IfOk made (λ value. Asks (entry (Ok (shown value))) old new)
  pub err : IfErr made (λ fault. IsRefused (entry (Err fault)) 0 fault old new)

-- whether the request of an entry is allowed, where this is held
abbrev pub may_ask : Rules → Held → EntryView → Bool
may_ask rules held entry = is_allowed rules entry && is_within rules.limits held entry

-- whether a child may be started by a spec, where this is held
abbrev pub allows_spawn : Rules → Held → SpecView → Bool
allows_spawn rules held spec =
    rules.allows (spawn spec) && nat_le (held.children + 1) rules.limits.children

-- the fault of a request that the guard doesn't forward: it is forbidden, or there was no memory
abbrev pub refusal : Bool → Fault
refusal allowed = record { kind = if allowed then OutOfMemory else PermissionDenied }

-- what the system below was asked for one entry of the guard, which held this before:
-- the same request, which is allowed and had the same result;
-- or, of a request that the guard refused, or for which there was no memory below, nothing but to
-- close ends that it took, from the first;
-- or the same of a spawn that was refused while as many children may run as are allowed at once;
-- or the environment or an allowed path, where there was no memory for a copy of the result
pub data Forwards (rules : Rules) (held : Held) (entry : EntryView) (below : List EntryView)
    : Type 0 where
  Passed : may_ask rules held entry ≡ true → below ≡ entry ∷ [] → Forwards rules held entry below
  Refused : (count : ℕ) → fault_of entry ≡ Some (refusal (may_ask rules held entry))
      → below ≡ map Close (take count (spent_by entry)) → Forwards rules held entry below
  Crowded : (count : ℕ) (spec : SpecView) (io : List (Stdio ℕ))
      → entry ≡ Spawn spec io (Err (refusal false)) → rules.at_once ≤ held.children
      → below ≡ map Close (take count (spent_by entry)) → Forwards rules held entry below
  LostVars : (vars : Vars) → entry ≡ Environment (Err (refusal true))
      → below ≡ Environment (Ok vars) ∷ [] → Forwards rules held entry below
  LostPath : (path name : List ℕ) → rules.allows (canonicalize path) ≡ true
      → entry ≡ Canonicalize path (Err (refusal true))
      → below ≡ Canonicalize path (Ok name) ∷ [] → Forwards rules held entry below

-- what it was asked, all in all: for each entry of the guard, which held this before the first, in
-- their order
abbrev pub ForwardsAll : Rules → Held → List EntryView → List EntryView → Type 0
ForwardsAll rules held [] below = below ≡ []
ForwardsAll rules held (entry ∷ entries) below =
    (asked rest : List EntryView)
    × (below ≡ asked ++ rest) × Forwards rules held entry asked
    × ForwardsAll rules (with_entry held entry) entries rest

-- the journal below before and after a request of the guard with this entry, which held this: what
-- the guard forwards was added
pub record IsForwarded (rules : Rules) (held : Held) (entry : EntryView) (old new : JournalView)
    : Type 0 where
  pub asked : List EntryView
  pub forwards : Forwards rules held entry asked
  pub adds : AddsAll asked (length (opened_by entry)) (length (spent_by entry)) old new

-- the system below, the policy, and the guard's own journal with the count of numbers of the system
-- below; what was held when the journal was cleared last, and what is held now; and the numbers of
-- the children that were started and aren't known to have ended
pub record GuardView (S P : Type 0) : Type 0 where
  pub inner : S
  pub policy : P
  pub journal : JournalView
  pub earlier : Held
  pub held : Held
  pub running : List ℕ

-- a guard's own journal has no more room than the one below, which has what the guard forwards;
-- what is held, and which children run, is by the entries of its own
pub record Keeps (may_answer : ℕ → Answer → Type 0) (rules : Rules) (earlier held : Held)
    (own below : JournalView) (running : List ℕ) : Type 0 where
  pub within : own.room ≤ below.room
  pub begun : IsBegun earlier own.added own.entries
  pub forwards : ∥ ForwardsAll rules earlier own.entries below.entries ∥₁
  pub counted : held ≡ held_after earlier own.entries
  pub fits : Fits rules.limits (counts_of earlier)
  pub knows : ∥ IsCrew may_answer rules.at_once earlier.children own.entries running ∥₁

-- the system below was asked what the guard forwards of the entries that were added to its own
-- journal, and nothing else, and nothing was cleared there; the policy stays, and so does what was
-- held when the journal was cleared last
pub record OnlyForwards {S P : Type 0} (journal_view : S → JournalView) (rules : P → Rules)
    (old new : GuardView S P) : Type 0 where
  pub added : List EntryView
  pub asked : List EntryView
  pub forwards : ForwardsAll (rules old.policy) old.held added asked
  pub added_are : new.journal.entries ≡ old.journal.entries ++ added
  pub asked_are : (journal_view new.inner).entries ≡ (journal_view old.inner).entries ++ asked
  pub count_is : (journal_view new.inner).added ≡ (journal_view old.inner).added + length asked
  pub policy_is : new.policy ≡ old.policy
  pub earlier_is : new.earlier ≡ old.earlier

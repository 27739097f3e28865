-- What holds between the requests of a run of actions: for the journal, for the ledger and for the
-- resources of the run.
use Rattle.std.specs.Prelude.{ℕ, ◌+◌, ◌<◌, ◌≤◌, List, [], ◌∷◌, ◌++◌, ◌≡◌, length, map, take, Some, None, IsSome, is_some, Option}
use Rattle.duct_system.specs.EntryView.{EntryView}
use Rattle.duct_system.specs.Journal.{JournalView}
use Rattle.duct_system.specs.Ledger.{opened_numbers, spent_numbers, count_of, open_count}
use Rattle.duct_system.specs.SpecView.{Vars}
use Rattle.duct_system.specs.Origin.{Origin, Opened, origin}
use Rattle.duct_system.specs.Started.{children_in, feeds_in, drains_in}
use Rattle.duct_system.specs.Trace.{trace, IsClean, fault_of}
use Rattle.duct_system.specs.declared.error.Error.{Error}
use Rattle.duct_system.specs.declared.error.Error.TheVariants.{System, Memory, Hook, HookEnd}
use Rattle.duct_system.specs.declared.system.Fault.{Fault}
use Rattle.duct_system.specs.declared.system.Kind.TheVariants.{OutOfMemory}
use Rattle.duct_system.specs.declared.system.Side.{Side}
use Rattle.duct_status.specs.PerSide.{at_side}
use Rattle.duct_run.specs.Actions as action
use Rattle.duct_run.specs.Actions.{Action, State, IsReady, AreReady, advance, after_actions}
use Rattle.duct_start.specs.Asked.{end_at, origin_to}
use Rattle.duct_start.specs.Chain.{Allows}
use Rattle.duct_start.specs.Follows.{AnswersFromBy, StreamsRelation, GivesExactly, pairs_in}
use Rattle.duct_start.specs.Surroundings.{Target}
use Rattle.duct_run.specs.ResourcesView.{ResourcesView, open_ends}
use Rattle.duct_run.specs.Kinds.{entry_kind, item_kind}
use Rattle.duct_start.specs.Sources.{ComesFrom, IsGivenFrom, Pairwise}
use Rattle.duct_start.specs.Step.{Item}

-- the numbers were given in between: each is at least `next` and below `then`, and occurs once
pub record AreFresh (next then : ℕ) (numbers : List ℕ) : Type 0 where
  pub newer : next ≤ then
  pub once : (n : ℕ) → count_of n numbers ≤ 1
  pub above : (n : ℕ) → n < next → count_of n numbers ≡ 0
  pub below : (n : ℕ) → then ≤ n → count_of n numbers ≡ 0

-- what stays the same during a run: the journal before it, a number that the caller's ends should
-- be below, how many ends may be on the stack, the variables that the system returned, and entries
-- that were added first
pub record RunContext : Type 0 where
  pub old : JournalView
  pub base : ℕ
  pub bound : ℕ
  pub pairs : Vars
  pub front : List EntryView

-- the caller's ends came from before the run
abbrev pub IsEarly : RunContext → Type 0
IsEarly context = context.base ≤ context.old.next

-- none of these entries got a number below this one
pub record IsLater (context : RunContext) (next : ℕ) (more : List EntryView) : Type 0 where
  pub fresh : (number : ℕ) → number < next → count_of number (opened_numbers more) ≡ 0

-- the ends of a capture pipe, if it is open, are those that the request at its place got
abbrev pub IsPair : List EntryView → Option ℕ → Option (ℕ × ℕ) → Type 0
IsPair added None None = Unit {0}
IsPair added (Some place) (Some pair) =
    (origin added pair.0 ≡ Opened (end_at (trace added) place 0))
    × (origin added pair.1 ≡ Opened (end_at (trace added) place 1))
IsPair added place pair = ⊥

-- the end of a number comes from this origin, and its origin is exactly this one under the premise
-- `early`
abbrev pub HasOrigin : Type 0 → List EntryView → ℕ → Option Origin → Type 0
HasOrigin early added number None = ⊥
HasOrigin early added number (Some source) =
    ComesFrom added number source × (early → origin added number ≡ source)

-- the end of a number comes from this target, in the same sense
abbrev pub IsFrom : {E : Type 0} → Type 0 → (E → ℕ) → List EntryView → ℕ → Target E → Type 0
IsFrom early number_of added number target =
    HasOrigin early added number (origin_to (trace added) number_of target)

-- the streams come from these origins, and have exactly these origins under the premise `early`
abbrev pub GivesUnder : Type 0 → List EntryView → StreamsRelation
GivesUnder early added io wanted =
    Pairwise (IsGivenFrom added) io wanted × (early → GivesExactly added io wanted)

-- the entries from a place on match the items from there on, with streams that come from where they
-- should
abbrev pub AnswersUnder : {E H : Type 0} → RunContext → Allows H → (E → ℕ) → List EntryView → ℕ
    → List (Item E H) → List EntryView → Type 0
AnswersUnder context allows number_of added place items entries =
    AnswersFromBy (GivesUnder (IsEarly context) added) allows number_of added place items entries

-- each open end comes from its target
pub record HasOrigins {E H : Type 0} (early : Type 0) (number_of : E → ℕ) (added : List EntryView)
    (state : State E H) (held : ResourcesView) : Type 0 where
  pub stack : Pairwise (IsFrom early number_of added) held.stack state.stack
  pub pipes : (which : Side) → IsPair added (at_side state.plan.pipes which)
      (at_side held.pipes which)

-- the ledger of a run agrees with its resources: each end that was got was spent or is open; each
-- number was got at most once, and is neither below the next number of the old journal nor at or
-- above that of the new one; there is room to spend all open ends; and the children and workers of
-- the resources are those that were started
pub record LedgerInvariant (old now : JournalView) (added : List EntryView)
    (held : ResourcesView) : Type 0 where
  pub entries_are : now.entries ≡ old.entries ++ added
  pub counted : now.added ≡ old.added + length added
  pub even : (n : ℕ) → count_of n (opened_numbers added) ≡ count_of n (spent_numbers added)
      + count_of n (open_ends held)
  pub once : (n : ℕ) → count_of n (opened_numbers added) ≤ 1
  pub below : (n : ℕ) → now.next ≤ n → count_of n (opened_numbers added) ≡ 0
  pub above : (n : ℕ) → n < old.next → count_of n (opened_numbers added) ≡ 0
  pub next_grows : old.next ≤ now.next
  pub long : length (opened_numbers added) ≡ length (spent_numbers added) + length (open_ends held)
  pub room_is : old.room + length (open_ends held) ≤ now.room
  pub children_are : held.children ≡ children_in added
  pub feeds_are : held.feeds ≡ feeds_in added
  pub drains_are : held.drains ≡ drains_in added

-- after every entry, at most `bound` + 8 ends were open
abbrev pub OpenEndsWithin : ℕ → List EntryView → Type 0
OpenEndsWithin bound added = (count : ℕ) → open_count (take count added) ≤ bound + 8

-- the resources fit the state: the two stacks have the same length, and the same capture pipes are
-- open
pub record IsShaped {E H : Type 0} (state : State E H) (held : ResourcesView) : Type 0 where
  pub stack : length held.stack ≡ length state.stack
  pub pipes : (which : Side)
      → is_some (at_side held.pipes which) ≡ is_some (at_side state.plan.pipes which)

-- the run has succeeded so far: no entry has a fault, the trace begins with the variables and
-- matches the items of the plan, and each open end comes from where it should, whatever entries
-- come later
pub record RunInvariant {E H : Type 0} (allows : Allows H) (number_of : E → ℕ)
    (context : RunContext)
    (state : State E H) (now : JournalView) (held : ResourcesView) : Type 0 where
  pub added : List EntryView
  pub ledger : LedgerInvariant context.old now added held
  pub few : OpenEndsWithin context.bound added
  pub kinds : map entry_kind (trace added) ≡ map item_kind state.plan.items
  pub shaped : IsShaped state held
  pub begins : (more : List EntryView) → pairs_in (trace (added ++ more)) ≡ context.pairs
  pub starts : (later : List EntryView) × (added ≡ context.front ++ later)
  pub answers : (more : List EntryView) → IsLater context now.next more
      → AnswersUnder context allows number_of (added ++ more) 0 state.plan.items (trace added)
  pub sources : (more : List EntryView) → IsLater context now.next more
      → HasOrigins (IsEarly context) number_of (added ++ more) state held
  pub clean : IsClean added

-- an error that comes without an entry: an allocation failure
abbrev pub IsAllocationFailure : Error → Type 0
IsAllocationFailure (System fault) = fault.kind ≡ OutOfMemory
IsAllocationFailure Memory = Unit {0}
IsAllocationFailure error = ⊥

-- an error that comes without an entry: that of a hook
abbrev pub IsHookError : Error → Type 0
IsHookError (Hook fault) = Unit {0}
IsHookError (HookEnd place) = Unit {0}
IsHookError error = ⊥

-- why a run stopped: no entry has a fault, and the error is an allocation failure or a hook's, or
-- the error is the fault of the last entry
pub data StopReason : List EntryView → Error → Type 0 where
  unasked : {added : List EntryView} {error : Error} → IsClean added → IsAllocationFailure error
      → StopReason added error
  hooked : {added : List EntryView} {error : Error} → IsClean added → IsHookError error
      → StopReason added error
  refused : (front : List EntryView) (entry : EntryView) (fault : Fault) → IsClean front
      → fault_of entry ≡ Some fault → StopReason (front ++ entry ∷ []) (System fault)

-- a run stopped with an error: the trace matches a prefix of the items, and the ledger of the run
-- agrees with the resources
pub record StopInvariant {E H : Type 0} (allows : Allows H) (number_of : E → ℕ)
    (context : RunContext)
    (items : List (Item E H)) (now : JournalView) (held : ResourcesView)
    (error : Error) : Type 0 where
  pub added : List EntryView
  pub ledger : LedgerInvariant context.old now added held
  pub few : OpenEndsWithin context.bound added
  pub answers : (more : List EntryView) → IsLater context now.next more
      → AnswersUnder context allows number_of (added ++ more) 0 items (trace added)
  pub ended : StopReason added error

-- an action succeeds, from any state of a run in which it is ready
abbrev pub ActionSucceeds : {E H : Type 0} → Allows H → (E → ℕ) → Action E H → JournalView
    → JournalView
    → ResourcesView → ResourcesView → Type 0
ActionSucceeds {E} {H} allows number_of action now then held kept =
    (context : RunContext) (state : State E H)
    → IsReady number_of context.base context.bound state action
    → RunInvariant allows number_of context state now held
    → RunInvariant allows number_of context (advance state action) then kept

-- an action fails with this error, from any state of a run in which it is ready
abbrev pub ActionFails : {E H : Type 0} → Allows H → (E → ℕ) → Action E H → JournalView
    → JournalView
    → ResourcesView → ResourcesView → Error → Type 0
ActionFails {E} {H} allows number_of action now then held kept error =
    (context : RunContext) (state : State E H)
    → IsReady number_of context.base context.bound state action
    → RunInvariant allows number_of context state now held
    → StopInvariant allows number_of context (advance state action).plan.items then kept error

-- what an action needs of the resources, besides the ends that it pops
abbrev pub FindsItsEnds : {E H : Type 0} → Action E H → ResourcesView → Type 0
FindsItsEnds (action.duplicate depth) held = depth < length held.stack
FindsItsEnds (action.duplicate_capture which) held = IsSome (at_side held.pipes which)
FindsItsEnds (action.open_read path) held = Unit {0}
FindsItsEnds (action.create path) held = Unit {0}
FindsItsEnds action.pipe held = Unit {0}
FindsItsEnds action.input held = Unit {0}
FindsItsEnds (action.capture which) held = Unit {0}
FindsItsEnds (action.duplicate_caller_end end) held = Unit {0}
FindsItsEnds (action.parent which) held = Unit {0}
FindsItsEnds action.close held = Unit {0}
FindsItsEnds (action.spawn scope words ports) held = Unit {0}
FindsItsEnds (action.feed bytes) held = Unit {0}
FindsItsEnds (action.finish which) held = Unit {0}

-- a run that has succeeded so far is about to perform these actions, which lead to its goal
pub record ReadyForActions {E H : Type 0} (allows : Allows H) (number_of : E → ℕ)
    (context : RunContext)
    (goal : State E H) (actions : List (Action E H)) (now : JournalView) (held : ResourcesView)
    : Type 0 where
  pub state : State E H
  pub invariant : RunInvariant allows number_of context state now held
  pub ready : AreReady number_of context.base context.bound state actions
  pub goal_is : after_actions state actions ≡ goal

-- some run has these actions left to perform, where the system returned these variables
abbrev pub SomeReadyForActions : {E H : Type 0} → Allows H → (E → ℕ) → Vars → List (Action E H)
    → JournalView → ResourcesView → Type 0
SomeReadyForActions {E} {H} allows number_of pairs actions now held =
    (context : RunContext) × (goal : State E H) × (context.pairs ≡ pairs)
    × ReadyForActions allows number_of context goal actions now held

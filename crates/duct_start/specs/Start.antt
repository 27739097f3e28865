-- What a start guarantees about the journal.
use Rattle.std.specs.Prelude.{ℕ, ◌+◌, ◌*◌, ◌<◌, ◌≤◌, max, List, [], ◌∷◌, ◌++◌, ◌≡◌, length, take, All, Some, None, Option}
use Rattle.duct_system.specs.Journal.{JournalView}
use Rattle.duct_system.specs.Ledger.{IsBalanced, count_of, opened_numbers, open_count}
use Rattle.duct_system.specs.EntryView.{EntryView}
use Rattle.duct_system.specs.Trace.{IsClean, StopsAtFault, segment, trace}
use Rattle.duct_system.specs.declared.error.Error.{Error}
use Rattle.duct_start.specs.Causes.{IsCausedOrMemory, ReturnsLastFault}
use Rattle.duct_start.specs.Chain.{Allows, Refuses}
use Rattle.duct_start.specs.Follows.{AsksPlan, Follows, FollowsWhole}
use Rattle.duct_start.specs.Plan.{Plan}
use Rattle.duct_start.specs.Row.{RowOpening, Row, SettingView, Route, opens_nothing, opens_input, opens_read, opens_create, opens_capture, as_outside, to_nothing, to_lent, to_opened, says_folder, says_change, says_hook, row}
use Rattle.duct_start.specs.TreeView.{ModifierView, TreeView, command, pipe, around}

-- the caller's ends that a route leads to
abbrev pub route_ends : {K E : Type 0} → Route K E → List E
route_ends (to_lent end) = end ∷ []
route_ends (as_outside stream) = []
route_ends to_nothing = []
route_ends to_opened = []

-- the caller's ends that a node's hook has
abbrev pub said_ends : {E H : Type 0} → Option (SettingView E H) → List E
said_ends (Some (says_hook hook ends)) = ends
said_ends (Some (says_folder path)) = []
said_ends (Some (says_change change)) = []
said_ends None = []

-- the caller's ends that a node of this row holds
abbrev pub row_ends : {E H : Type 0} → Row E H → List E
row_ends row =
    route_ends row.input ++ (route_ends row.output ++ (route_ends row.error ++ said_ends row.says))

-- the caller's ends that a node holds
abbrev pub modifier_ends : {E H : Type 0} → ModifierView E H → List E
modifier_ends modifier = row_ends (row modifier)

-- the caller's ends that a tree holds
abbrev pub ends_in : {E H : Type 0} → TreeView E H → List E
ends_in (command words) = []
ends_in (pipe left right) = ends_in left ++ ends_in right
ends_in (around modifier inner) = modifier_ends modifier ++ ends_in inner

-- the caller's ends came from this system before the start: their numbers are below the next one
-- that it gives
abbrev pub AreEarlier : {E H : Type 0} → (E → ℕ) → JournalView → TreeView E H → Type 0
AreEarlier number_of old tree = All (λ end. number_of end < old.next) (ends_in tree)

-- what a node adds to the depth of a tree by what it opens: 1 for an input or a path
abbrev pub opens_depth : RowOpening → ℕ
opens_depth opens_nothing = 0
opens_depth (opens_input bytes) = 1
opens_depth (opens_read path) = 1
opens_depth (opens_create path) = 1
opens_depth (opens_capture which) = 0

-- what a route adds to the depth of a tree: 1 for a caller's end
abbrev pub route_depth : {K E : Type 0} → Route K E → ℕ
route_depth (to_lent end) = 1
route_depth (as_outside stream) = 0
route_depth to_nothing = 0
route_depth to_opened = 0

-- what a node adds to the depth of a tree
abbrev pub modifier_depth : {E H : Type 0} → ModifierView E H → ℕ
modifier_depth modifier =
    let r = row modifier in
    opens_depth r.opens + (route_depth r.input + (route_depth r.output + route_depth r.error))

-- the greatest number of pipes, inputs, paths and files around one command
abbrev pub depth : {E H : Type 0} → TreeView E H → ℕ
depth (command words) = 0
depth (pipe left right) = max (depth left) (depth right) + 1
depth (around modifier inner) = modifier_depth modifier + depth inner

-- after every entry, at most twice the depth of the tree plus 12 ends are open
abbrev pub KeepsFewOpen : {E H : Type 0} → TreeView E H → List EntryView → Type 0
KeepsFewOpen tree added = (count : ℕ) → open_count (take count added) ≤ 2 * depth tree + 12

-- the old journal is a prefix of the new one, no entry was cleared in between, and neither the next
-- number nor the room has decreased
pub record Grows (old new : JournalView) : Type 0 where
  pub front : new.entries ≡ old.entries ++ segment old.entries new.entries
  pub counted : new.added ≡ old.added + length (segment old.entries new.entries)
  pub next_grows : old.next ≤ new.next
  pub room_grows : old.room ≤ new.room

-- no number that these entries got is below the next number of the old journal
abbrev pub GotNew : JournalView → List EntryView → Type 0
GotNew old added = (number : ℕ) → number < old.next → count_of number (opened_numbers added) ≡ 0

-- a start that succeeds: the journal has grown by entries without a fault, which make all requests
-- of the plan in order, and which follow the whole plan if the caller's ends came before the start;
-- each end that was got was spent
pub record StartSucceeds {E H : Type 0} (allows : Allows H) (number_of : E → ℕ)
    (tree : TreeView E H) (plan : Plan E H) (old new : JournalView) : Type 0 where
  pub grows : Grows old new
  pub clean : IsClean (segment old.entries new.entries)
  pub long : length (trace (segment old.entries new.entries)) ≡ length plan.items
  pub asks : AsksPlan allows number_of plan (segment old.entries new.entries)
  pub whole : AreEarlier number_of old tree
      → FollowsWhole allows number_of plan (segment old.entries new.entries)
  pub balanced : IsBalanced (segment old.entries new.entries)
  pub got_new : GotNew old (segment old.entries new.entries)
  pub few : KeepsFewOpen tree (segment old.entries new.entries)

-- a start that fails: the journal has grown by entries that make the requests of a prefix of the
-- plan, and that follow the plan if the caller's ends came before the start; after a fault there
-- are only closes, the error has a cause, and each end that was got was spent
pub record StartRefused {E H : Type 0} (allows : Allows H) (refuses : Refuses H) (number_of : E → ℕ)
    (tree : TreeView E H) (plan : Plan E H)
    (old new : JournalView) (error : Error) : Type 0 where
  pub grows : Grows old new
  pub stops : StopsAtFault (segment old.entries new.entries)
  pub asks : AsksPlan allows number_of plan (segment old.entries new.entries)
  pub follows : AreEarlier number_of old tree
      → Follows allows number_of plan (segment old.entries new.entries)
  pub cause : IsCausedOrMemory allows refuses number_of plan (segment old.entries new.entries) error
  pub last_fault : ReturnsLastFault (segment old.entries new.entries) error
  pub balanced : IsBalanced (segment old.entries new.entries)
  pub got_new : GotNew old (segment old.entries new.entries)
  pub few : KeepsFewOpen tree (segment old.entries new.entries)

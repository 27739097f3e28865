-- What a whole run guarantees, from the request for the environment to the capture pipes.
use Rattle.std.specs.Prelude.{◌≡◌, Bool, false, is_some, ℕ, List, [], IsSome, None, Some, Option}
use Rattle.duct_system.specs.EntryView.{EntryView, Close, Reader}
use Rattle.duct_system.specs.Journal.{JournalView, GivesEnds}
use Rattle.duct_system.specs.SpecView.{Vars}
use Rattle.duct_system.specs.declared.error.Error.{Error}
use Rattle.duct_system.specs.declared.system.Side.TheVariants as side
use Rattle.duct_status.specs.PerSide.{with_side}
use Rattle.duct_run.specs.Actions.{Action, Leads, with_capture_finished, with_plan}
use Rattle.duct_start.specs.Chain.{Allows, Refuses}
use Rattle.duct_run.specs.Commands.{StoppedWithCause}
use Rattle.duct_run.specs.ResourcesView.{ResourcesView}
use Rattle.duct_start.specs.Plan.{Plan, initial_plan, with_reader}
use Rattle.duct_run.specs.RunInvariant.{RunContext, RunInvariant}
use Rattle.duct_run.specs.declared.start.StartKind.{StartKind}
use Rattle.duct_run.specs.declared.start.StartKind.TheVariants.{Draining, Reading}
use Rattle.duct_start.specs.Running.{MadeReader}
use Rattle.duct_start.specs.TreeView.{TreeView, around, stdout_capture}

-- how the plan goes on once the commands run
abbrev pub PlanTail : Type 0 → Type 0 → Type 0
PlanTail E H = Plan E H → Plan E H

-- no further request
abbrev pub no_tail : {E H : Type 0} → PlanTail E H
no_tail plan = plan

-- the reader of stdout's capture pipe
abbrev pub reader_tail : {E H : Type 0} → PlanTail E H
reader_tail plan = record {
  items = (with_reader plan.pipes.out plan).items;
  pipes = with_side plan.pipes side.Out None;
}

-- how it goes on at a start of this kind: with the drain workers of the capture pipes, or with
-- stderr's and the reader
abbrev pub tail_for : {E H : Type 0} → StartKind → PlanTail E H
tail_for Draining plan = with_capture_finished side.Err (with_capture_finished side.Out plan)
tail_for Reading plan = reader_tail (with_capture_finished side.Err plan)

-- the tree that is listed for a start of this kind: a reader's is inside one more capture of stdout
abbrev pub tree_for : {E H : Type 0} → StartKind → TreeView E H → TreeView E H
tree_for Draining tree = tree
tree_for Reading tree = around stdout_capture tree

-- the context of a run that began with this journal
abbrev pub context_of : JournalView → ℕ → ℕ → Vars → RunContext
context_of old base bound pairs =
    record { old = old; base = base; bound = bound; pairs = pairs; front = [] }

-- these actions lead to some plan
abbrev pub LeadToSomePlan : {E H : Type 0} → (E → ℕ) → List (Action E H) → Type 0
LeadToSomePlan {E} {H} number_of actions =
    (base : ℕ) × (bound : ℕ) × (plan : Plan E H)
    × Leads number_of base bound (with_plan initial_plan) actions (with_plan plan)

-- these actions open stdout's capture pipe, whatever plan they lead to
abbrev pub OpenOutputCapture : {E H : Type 0} → (E → ℕ) → List (Action E H) → Type 0
OpenOutputCapture {E} {H} number_of actions =
    (base bound : ℕ) (plan : Plan E H)
    → Leads number_of base bound (with_plan initial_plan) actions (with_plan plan)
    → IsSome plan.pipes.out

-- the actions and the tail succeeded: whatever plan they lead to, its requests were made
abbrev pub ActionsSucceed : {E H : Type 0} → Allows H → (E → ℕ) → PlanTail E H → List (Action E H)
    → JournalView → JournalView → ResourcesView → Type 0
ActionsSucceed {E} {H} allows number_of ending actions old now held =
    (pairs : Vars) × ((base bound : ℕ) (plan : Plan E H)
    → Leads number_of base bound (with_plan initial_plan) actions (with_plan plan)
    → RunInvariant allows number_of (context_of old base bound pairs)
    (with_plan (ending plan)) now held)

-- the actions or the tail failed with this error
abbrev pub ActionsFail : {E H : Type 0} → Allows H → Refuses H → (E → ℕ) → PlanTail E H
    → List (Action E H) → JournalView → JournalView → ResourcesView → Error → Type 0
ActionsFail {E} {H} allows refuses number_of ending actions old now held error =
    (pairs : Vars) × ((base bound : ℕ) (plan : Plan E H)
    → Leads number_of base bound (with_plan initial_plan) actions (with_plan plan)
    → StoppedWithCause allows refuses number_of (context_of old base bound pairs)
    (ending plan).items now held
    error)

-- whether stdout's capture pipe gets a worker at a start of this kind, by whether it is open
abbrev pub drains_if_open : StartKind → Bool → Bool
drains_if_open Draining is_open = is_open
drains_if_open Reading is_open = false

-- these booleans tell whether stdout and stderr get a capture worker at a start of this kind,
-- whatever plan the actions lead to
abbrev pub HaveWorkers : {E H : Type 0} → StartKind → (E → ℕ) → List (Action E H) → Bool → Bool
    → Type 0
HaveWorkers {E} {H} kind number_of actions output error =
    (base bound : ℕ) (plan : Plan E H)
    → Leads number_of base bound (with_plan initial_plan) actions (with_plan plan)
    → (output ≡ drains_if_open kind (is_some plan.pipes.out)) × (error ≡ is_some plan.pipes.err)

-- the reader of a start of this kind, by the entries that it added: a start that reads made it
-- last, and another start made none
abbrev pub IsReaderOf : {R : Type 0} → (ℕ → R → Type 0) → StartKind → List EntryView → Option R
    → Type 0
IsReaderOf may Draining added reader = reader ≡ None
IsReaderOf may Reading added None = ⊥
IsReaderOf may Reading added (Some reader) = MadeReader may added reader

-- the write end of this pipe was closed, and then this reader was made of its read end
pub record IsRead {R : Type 0} (may : ℕ → R → Type 0) (pipe : Option (ℕ × ℕ))
    (now next : JournalView)
    (reader : R) : Type 0 where
  pub read_end : ℕ
  pub write_end : ℕ
  pub between : JournalView
  pub pipe_is : pipe ≡ Some (read_end, write_end)
  pub closed : GivesEnds (Close write_end) 1 now between
  pub made : GivesEnds (Reader read_end) 1 between next
  pub told : may read_end reader

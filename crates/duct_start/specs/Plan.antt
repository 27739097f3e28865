-- The plan of a start: the requests that it makes to the system, computed from the tree alone.
use Rattle.std.specs.Prelude.{ℕ, Bool, List, [], ◌∷◌, ◌++◌, length, Some, None, is_some, if◌then◌else◌, slice_get, unwrap_or, Option}
use Rattle.duct_base.specs.Executable.{asks_canonical}
use Rattle.duct_system.specs.declared.system.Side.{Side}
use Rattle.duct_status.specs.PerSide.{at_side, with_side}
use Rattle.duct_status.specs.declared.per_side.PerSide.{PerSide}
use Rattle.duct_start.specs.Surroundings.{Surroundings}
use Rattle.duct_start.specs.Lookup.{surroundings_on, Path, left_of, right_of, within}
use Rattle.duct_start.specs.Step.{Item, AskEnvironment, AskPipe, AskCanonicalize, AskSpawn, AskDrain, AskReader, Opening, OpensNothing, Opens, Captures, step}
use Rattle.duct_start.specs.TreeView.{TreeView, command, pipe, around, stdout_capture}

-- the items so far, and the places of the capture pipes of stdout and stderr once they are open
pub record Plan (E H : Type 0) : Type 0 where
  pub items : List (Item E H)
  pub pipes : PerSide (Option ℕ)

-- the place of the capture pipe of this side, if it is open
abbrev pub capture_place : {E H : Type 0} → Side → Plan E H → Option ℕ
capture_place which plan = at_side plan.pipes which

-- a plan with one more item at its end
abbrev pub with_item : {E H : Type 0} → Item E H → Plan E H → Plan E H
with_item item plan = record plan { items = plan.items ++ item ∷ [] }

-- the plan with the capture pipe of this side, which is opened now if it was not open yet
abbrev pub with_capture : {E H : Type 0} → Side → Plan E H → Plan E H
with_capture which plan =
    if is_some (at_side plan.pipes which) then plan else record (with_item AskPipe plan)
    { pipes = with_side plan.pipes which (Some (length plan.items)) }

-- the plan after the request that a node makes before its inner expression, if it makes one
abbrev pub with_opening : {E H : Type 0} → Opening E H → Plan E H → Plan E H
with_opening OpensNothing plan = plan
with_opening (Opens item) plan = with_item item plan
with_opening (Captures which) plan = with_capture which plan

-- the place of a node that comes next: that of the item that it adds or, for a capture, that of its
-- stream's one capture pipe
abbrev pub place_for : {E H : Type 0} → Opening E H → Plan E H → ℕ
place_for OpensNothing plan = length plan.items
place_for (Opens item) plan = length plan.items
place_for (Captures which) plan = unwrap_or (at_side plan.pipes which) (length plan.items)

-- the plan after the requests that a node makes after its inner expression
abbrev pub with_closing : {E H : Type 0} → List (Item E H) → Plan E H → Plan E H
with_closing items plan = record plan { items = plan.items ++ items }

-- the program of a command: its first word
abbrev pub program_of : List (List ℕ) → List ℕ
program_of words = unwrap_or (slice_get words 0) []

-- whether the canonical path of a command's program is requested before its spawn
abbrev pub is_canonical : {E H : Type 0} → Surroundings E H → List (List ℕ) → Bool
is_canonical found words = asks_canonical (program_of words) (is_some found.folder)

-- the plan with the items of a command that has these surroundings
abbrev pub with_command : {E H : Type 0} → Surroundings E H → List (List ℕ) → Plan E H → Plan E H
with_command found words plan =
    with_item (AskSpawn found words)
    (if is_canonical found words then with_item (AskCanonicalize (program_of words)) plan else plan)

-- the plan after a tree with this path to the root: a node's own request comes before its inner
-- expression, and the left side of a pipe before the right side
abbrev pub plan_of_subtree : {E H : Type 0} → Path E H → TreeView E H → Plan E H → Plan E H
plan_of_subtree up (command words) plan = with_command (surroundings_on up) words plan
plan_of_subtree up (pipe left right) plan =
    let place = length plan.items in
    plan_of_subtree (right_of place ∷ up) right (plan_of_subtree (left_of place ∷ up) left
    (with_item AskPipe plan))
plan_of_subtree up (around modifier inner) plan =
    let place = place_for (step modifier).opening plan in
    with_closing ((step modifier).closing place)
    (plan_of_subtree (within place modifier ∷ up) inner (with_opening (step modifier).opening plan))

-- no capture pipe is open
abbrev pub no_pipes : {A : Type 0} → PerSide (Option A)
no_pipes = record { out = None; err = None }

-- the plan before its tree: the environment is requested first
abbrev pub initial_plan : {E H : Type 0} → Plan E H
initial_plan = record { items = AskEnvironment ∷ []; pipes = no_pipes }

-- the plan with the drain worker of a capture pipe, if the pipe is open
abbrev pub with_drain : {E H : Type 0} → Option ℕ → Plan E H → Plan E H
with_drain None plan = plan
with_drain (Some place) plan = with_item (AskDrain place) plan

-- the plan with the reader of a capture pipe, if the pipe is open
abbrev pub with_reader : {E H : Type 0} → Option ℕ → Plan E H → Plan E H
with_reader None plan = plan
with_reader (Some place) plan = with_item (AskReader place) plan

-- the plan of a start: after all commands, the drain worker of stdout's capture pipe, then that of
-- stderr's
abbrev pub plan_of : {E H : Type 0} → TreeView E H → Plan E H
plan_of tree = let plan = plan_of_subtree [] tree initial_plan in with_drain plan.pipes.err
    (with_drain plan.pipes.out plan)

-- the plan of a reader's start: that of the tree inside one stdout capture, with the reader as its
-- last item in place of stdout's drain worker
abbrev pub plan_of_reader : {E H : Type 0} → TreeView E H → Plan E H
plan_of_reader tree =
    let plan = plan_of_subtree [] (around stdout_capture tree) initial_plan
    in with_reader plan.pipes.out (with_drain plan.pipes.err plan)

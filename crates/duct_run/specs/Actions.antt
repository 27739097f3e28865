-- The actions of a start, as a flat list over a stack of ends: an action pushes the ends that it
-- gets and pops those that it gives. Capture pipes are kept apart from the stack. No request to a
-- system is made here.
use Rattle.std.specs.Prelude.{ℕ, ◌+◌, ◌<◌, ◌≤◌, ◌≡◌, ◌||◌, Bool, true, false, List, [], ◌∷◌, ◌++◌, length, drop, reverse, slice_get, unwrap_or, None, IsSome, All, Option}
use Rattle.duct_system.specs.declared.spec.Port.{Port}
use Rattle.duct_system.specs.declared.spec.Port.TheVariants as port
use Rattle.duct_system.specs.declared.spec.Stream.{Stream}
use Rattle.duct_system.specs.declared.spec.Stream.TheVariants.{In, Out, Err}
use Rattle.duct_system.specs.declared.system.Side.{Side}
use Rattle.duct_system.specs.declared.system.Side.TheVariants as side
use Rattle.duct_status.specs.PerSide.{at_side, with_side}
use Rattle.duct_start.specs.Asked.{port_to}
use Rattle.duct_start.specs.Surroundings.{Surroundings, Target, Parents, Nothing, ReaderAt, WriterAt, FileAt, Lends, VariableChange, target_of}
use Rattle.duct_start.specs.Plan.{Plan, with_item, with_capture, with_command, with_drain, capture_place}
use Rattle.duct_start.specs.Step.{Item, AskPipe, AskOpenRead, AskCreate, AskFeed}

-- one value for each of the three streams
pub record PerStream (X : Type 0) : Type 0 where
  pub input : X
  pub output : X
  pub error : X

-- the scope of a command: the folder, the changes of variables with the nearest first, and the
-- hooks with the outermost first, each with its ends
pub record Scope (E H : Type 0) : Type 0 where
  pub folder : Option (List ℕ)
  pub changes : List VariableChange
  pub hooks : List (H × List E)

-- one action, where a spawn names its scope by a value of type `K`. A pipe leaves its write end on
-- top, an input its read end. A depth is counted from the bottom of the stack; `duplicate_capture`
-- duplicates the write end of a capture pipe, `finish` closes it and starts the drain worker of its
-- read end. A spawn first requests the canonical path of its program, where one is needed
pub data ActionOf (E K : Type 0) : Type 0 where
  open_read : List ℕ → ActionOf E K
  create : List ℕ → ActionOf E K
  pipe : ActionOf E K
  input : ActionOf E K
  capture : Side → ActionOf E K
  duplicate : ℕ → ActionOf E K
  duplicate_capture : Side → ActionOf E K
  duplicate_caller_end : E → ActionOf E K
  parent : Side → ActionOf E K
  close : ActionOf E K
  spawn : K → List (List ℕ) → PerStream Port → ActionOf E K
  feed : List ℕ → ActionOf E K
  finish : Side → ActionOf E K

-- an action that holds the scope of its command itself
abbrev pub Action : Type 0 → Type 0 → Type 0
Action E H = ActionOf E (Scope E H)

-- the stack, its top first, with each end by where it comes from; and the plan so far, with the
-- places of the open capture pipes
pub record State (E H : Type 0) : Type 0 where
  pub stack : List (Target E)
  pub plan : Plan E H

-- the element at a depth of a stack
abbrev pub at_depth : {A : Type 0} → List A → ℕ → Option A
at_depth stack depth = slice_get (reverse stack) depth

-- the place of the pipe whose end is on top of the stack, or 0 if no end of a pipe is on top
abbrev pub pipe_place : {E : Type 0} → List (Target E) → ℕ
pipe_place (ReaderAt place ∷ stack) = place
pipe_place (WriterAt place ∷ stack) = place
pipe_place stack = 0

-- where a stream goes by its port: to the end on top of the stack, to nothing, or else to the
-- parent's stream
abbrev pub stream_target : {E : Type 0} → Stream → Port → List (Target E) → Target E
stream_target stream port.Given (top ∷ stack) = top
stream_target stream port.Null stack = Nothing
stream_target stream p stack = Parents stream

-- the stack after a port has taken its end, if it takes one
abbrev pub stack_after_port : {A : Type 0} → Port → List A → List A
stack_after_port port.Given stack = drop 1 stack
stack_after_port p stack = stack

-- how many ends a port takes
abbrev pub port_end_count : Port → ℕ
port_end_count port.Given = 1
port_end_count p = 0

-- the stack after three ports have taken their ends; stderr's end is on top
abbrev pub stack_after_ports : {A : Type 0} → PerStream Port → List A → List A
stack_after_ports ports stack = stack_after_port ports.input
    (stack_after_port ports.output (stack_after_port ports.error stack))

-- the surroundings of a command, by its scope and by what its ports take from the stack
abbrev pub surroundings_by : {E H : Type 0} → Scope E H → PerStream Port → List (Target E)
    → Surroundings E H
surroundings_by scope ports stack = record {
  folder = scope.folder;
  changes = scope.changes;
  input = stream_target In ports.input (stack_after_port ports.output
      (stack_after_port ports.error stack));
  output = stream_target Out ports.output (stack_after_port ports.error stack);
  error = stream_target Err ports.error stack;
  hooks = scope.hooks;
}

-- the plan after the capture pipe of this side is finished: its drain worker is requested, if the
-- pipe was open
abbrev pub with_capture_finished : {E H : Type 0} → Side → Plan E H → Plan E H
with_capture_finished which plan = record {
  items = (with_drain (at_side plan.pipes which) plan).items;
  pipes = with_side plan.pipes which None;
}

-- the state with an empty stack and this plan
abbrev pub with_plan : {E H : Type 0} → Plan E H → State E H
with_plan plan = record { stack = []; plan = plan }

-- the state with these ends pushed onto the stack, and one more item
abbrev pub with_opened_ends : {E H : Type 0} → List (Target E) → Item E H → State E H → State E H
with_opened_ends tops item state = record {
  stack = tops ++ state.stack;
  plan = with_item item state.plan;
}

-- the state with one more end on the stack
abbrev pub with_end : {E H : Type 0} → Target E → State E H → State E H
with_end top state = record { stack = top ∷ state.stack; plan = state.plan }

-- the state after an action
abbrev pub advance : {E H : Type 0} → State E H → Action E H → State E H
advance state (open_read path) =
    with_opened_ends (FileAt (length state.plan.items) ∷ []) (AskOpenRead path) state
advance state (create path) = with_opened_ends (FileAt (length state.plan.items) ∷ [])
    (AskCreate path) state
advance state pipe =
    let place = length state.plan.items in with_opened_ends
    (WriterAt place ∷ ReaderAt place ∷ []) AskPipe state
advance state input =
    let place = length state.plan.items in with_opened_ends
    (ReaderAt place ∷ WriterAt place ∷ []) AskPipe state
advance state (capture which) = record { stack = state.stack; plan = with_capture which state.plan }
advance state (duplicate depth) = with_end (unwrap_or (at_depth state.stack depth) Nothing) state
advance state (duplicate_capture which) = with_end (WriterAt
    (unwrap_or (capture_place which state.plan) 0)) state
advance state (duplicate_caller_end end) = with_end (Lends end) state
advance state (parent side.Out) = with_end (Parents Out) state
advance state (parent side.Err) = with_end (Parents Err) state
advance state close = record { stack = drop 1 state.stack; plan = state.plan }
advance state (spawn scope words ports) = record {
  stack = stack_after_ports ports state.stack;
  plan = with_command (surroundings_by scope ports state.stack) words state.plan;
}
advance state (feed bytes) = record {
  stack = drop 1 state.stack;
  plan = with_item (AskFeed (pipe_place state.stack) bytes) state.plan;
}
advance state (finish which) = record {
  stack = state.stack;
  plan = with_capture_finished which state.plan;
}

-- the state after a list of actions
abbrev pub after_actions : {E H : Type 0} → State E H → List (Action E H) → State E H
after_actions state [] = state
after_actions state (action ∷ actions) = after_actions (advance state action) actions

-- whether an action opens the capture pipe of this side
abbrev pub is_capture : {E K : Type 0} → Side → ActionOf E K → Bool
is_capture side.Out (capture side.Out) = true
is_capture side.Err (capture side.Err) = true
is_capture side.Out (capture side.Err) = false
is_capture side.Err (capture side.Out) = false
is_capture stream (open_read path) = false
is_capture stream (create path) = false
is_capture stream pipe = false
is_capture stream input = false
is_capture stream (duplicate depth) = false
is_capture stream (duplicate_capture which) = false
is_capture stream (duplicate_caller_end end) = false
is_capture stream (parent which) = false
is_capture stream close = false
is_capture stream (spawn scope words ports) = false
is_capture stream (feed bytes) = false
is_capture stream (finish which) = false

-- whether an action of a list opens the capture pipe of this side
abbrev pub captures_in : {E K : Type 0} → Side → List (ActionOf E K) → Bool
captures_in which [] = false
captures_in which (action ∷ actions) = is_capture which action || captures_in which actions

-- no action of a list finishes a capture pipe
abbrev pub NoneFinishes : {E K : Type 0} → List (ActionOf E K) → Type 0
NoneFinishes [] = Unit {0}
NoneFinishes (finish which ∷ actions) = ⊥
NoneFinishes (open_read path ∷ actions) = NoneFinishes actions
NoneFinishes (create path ∷ actions) = NoneFinishes actions
NoneFinishes (pipe ∷ actions) = NoneFinishes actions
NoneFinishes (input ∷ actions) = NoneFinishes actions
NoneFinishes (capture which ∷ actions) = NoneFinishes actions
NoneFinishes (duplicate depth ∷ actions) = NoneFinishes actions
NoneFinishes (duplicate_capture which ∷ actions) = NoneFinishes actions
NoneFinishes (duplicate_caller_end end ∷ actions) = NoneFinishes actions
NoneFinishes (parent which ∷ actions) = NoneFinishes actions
NoneFinishes (close ∷ actions) = NoneFinishes actions
NoneFinishes (spawn scope words ports ∷ actions) = NoneFinishes actions
NoneFinishes (feed bytes ∷ actions) = NoneFinishes actions

-- the top of the stack is the write end of a pipe
abbrev pub IsWriter : {E : Type 0} → List (Target E) → Type 0
IsWriter (WriterAt place ∷ stack) = Unit {0}
IsWriter stack = ⊥

-- the port of a stream
abbrev pub port_in : PerStream Port → Stream → Port
port_in ports In = ports.input
port_in ports Out = ports.output
port_in ports Err = ports.error

-- the ends of these hooks have numbers below this one
abbrev pub AreBelow : {E H : Type 0} → (E → ℕ) → ℕ → List (H × List E) → Type 0
AreBelow number_of base hooks = All (λ hook. All (λ end. number_of end < base) hook.1) hooks

-- what a spawn needs: each stream has the port of where it goes, the ends of its hooks have numbers
-- below `base`, and the stack has room for three streams and one more end
pub record CanSpawn {E H : Type 0} (number_of : E → ℕ) (base bound : ℕ) (stack : List (Target E))
    (scope : Scope E H) (ports : PerStream Port) : Type 0 where
  pub ports_are : (stream : Stream)
      → port_in ports stream ≡ port_to stream (target_of (surroundings_by scope ports stack) stream)
  pub below : AreBelow number_of base scope.hooks
  pub place : length (stack_after_ports ports stack) + 3 < bound

-- how many ends an action pops
abbrev pub pop_count : {E K : Type 0} → ActionOf E K → ℕ
pop_count close = 1
pop_count (feed bytes) = 1
pop_count (spawn scope words ports) = port_end_count ports.input
    + (port_end_count ports.output + port_end_count ports.error)
pop_count (open_read path) = 0
pop_count (create path) = 0
pop_count pipe = 0
pop_count input = 0
pop_count (capture which) = 0
pop_count (duplicate depth) = 0
pop_count (duplicate_capture which) = 0
pop_count (duplicate_caller_end end) = 0
pop_count (parent which) = 0
pop_count (finish which) = 0

-- what an action needs besides the ends that it pops; a caller's end has a number below this one
abbrev pub Needs : {E H : Type 0} → (E → ℕ) → ℕ → ℕ → State E H → Action E H → Type 0
Needs number_of base bound state (duplicate depth) = depth < length state.stack
Needs number_of base bound state (duplicate_capture which) = IsSome (capture_place which state.plan)
Needs number_of base bound state (duplicate_caller_end end) = number_of end < base
Needs number_of base bound state (feed bytes) = IsWriter state.stack
Needs number_of base bound state (spawn scope words ports) =
    CanSpawn number_of base bound state.stack scope ports
Needs number_of base bound state (open_read path) = Unit {0}
Needs number_of base bound state (create path) = Unit {0}
Needs number_of base bound state pipe = Unit {0}
Needs number_of base bound state input = Unit {0}
Needs number_of base bound state (capture which) = Unit {0}
Needs number_of base bound state (parent which) = Unit {0}
Needs number_of base bound state close = Unit {0}
Needs number_of base bound state (finish which) = Unit {0}

-- an action has all that it needs, and leaves at most `bound` ends on the stack
pub record IsReady {E H : Type 0} (number_of : E → ℕ) (base bound : ℕ) (state : State E H)
    (action : Action E H) : Type 0 where
  pub full : pop_count action ≤ length state.stack
  pub needs : Needs number_of base bound state action
  pub low : length (advance state action).stack ≤ bound

-- each action of a list is ready in the state that it is performed in
abbrev pub AreReady : {E H : Type 0} → (E → ℕ) → ℕ → ℕ → State E H → List (Action E H) → Type 0
AreReady number_of base bound state [] = Unit {0}
AreReady number_of base bound state (action ∷ actions) =
    IsReady number_of base bound state action
    × AreReady number_of base bound (advance state action) actions

-- the actions are ready, one after the other, and lead from one state to another
pub record Leads {E H : Type 0} (number_of : E → ℕ) (base bound : ℕ) (state : State E H)
    (actions : List (Action E H)) (next : State E H) : Type 0 where
  pub ready : AreReady number_of base bound state actions
  pub is : after_actions state actions ≡ next

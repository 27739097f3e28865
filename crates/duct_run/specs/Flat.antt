-- The flat plan of a tree: a list of actions over a stack, which they leave as it was.
use Rattle.std.specs.Prelude.{ℕ, ◌+◌, ◌<◌, ◌≡◌, Bool, true, false, List, [], ◌∷◌, ◌++◌, None, Some, Option}
use Rattle.std.specs.Option.{option_or}
use Rattle.duct_system.specs.declared.spec.Port.{Port}
use Rattle.duct_system.specs.declared.spec.Port.TheVariants as port
use Rattle.duct_system.specs.declared.spec.Stream.{Stream}
use Rattle.duct_system.specs.declared.spec.Stream.TheVariants.{In, Out, Err}
use Rattle.duct_system.specs.declared.system.Side.{Side}
use Rattle.duct_system.specs.declared.system.Side.TheVariants as side
use Rattle.duct_run.specs.Actions as action
use Rattle.duct_run.specs.Actions.{Action, ActionOf, AreBelow, Scope, State, PerStream, at_depth}
use Rattle.duct_start.specs.Plan.{capture_place}
use Rattle.duct_start.specs.Surroundings.{Surroundings, Target, Parents, Nothing, ReaderAt, WriterAt, FileAt, Lends}
use Rattle.duct_start.specs.Row.{RowOpening, Row, SettingView, Route, opens_nothing, opens_input, opens_read, opens_create, opens_capture, as_outside, to_nothing, to_lent, to_opened, row}
use Rattle.duct_start.specs.Step.{NodeStep, step_of_setting}
use Rattle.duct_start.specs.TreeView.{TreeView, command, pipe, around}

-- the source of a stream: a stream of the parent, nothing, the end at a depth of the stack, a
-- capture pipe, or a caller's end
pub data StreamSource (E : Type 0) : Type 0 where
  parents : Stream → StreamSource E
  nothing : StreamSource E
  slot : ℕ → StreamSource E
  captured : Side → StreamSource E
  lent : E → StreamSource E

-- the actions that fetch the end of a stream from its source; none where it needs no end
abbrev pub source_actions : {E K : Type 0} → StreamSource E → Stream → List (ActionOf E K)
source_actions nothing stream = []
source_actions (slot depth) stream = action.duplicate depth ∷ []
source_actions (captured which) stream = action.duplicate_capture which ∷ []
source_actions (lent end) stream = action.duplicate_caller_end end ∷ []
source_actions (parents In) stream = []
source_actions (parents Out) Out = []
source_actions (parents Err) Err = []
source_actions (parents Out) stream = action.parent side.Out ∷ []
source_actions (parents Err) stream = action.parent side.Err ∷ []

-- the port of a stream with this source
abbrev pub port_at : {E : Type 0} → StreamSource E → Stream → Port
port_at nothing stream = port.Null
port_at (slot depth) stream = port.Given
port_at (captured which) stream = port.Given
port_at (lent end) stream = port.Given
port_at (parents In) stream = port.Inherit
port_at (parents Out) Out = port.Inherit
port_at (parents Err) Err = port.Inherit
port_at (parents Out) stream = port.Given
port_at (parents Err) stream = port.Given

-- the ports of three sources
abbrev pub ports_at : {E : Type 0} → PerStream (StreamSource E) → PerStream Port
ports_at wires = record {
  input = port_at wires.input In;
  output = port_at wires.output Out;
  error = port_at wires.error Err;
}

-- the actions of a command
abbrev pub command_actions : {E K : Type 0} → K → PerStream (StreamSource E) → List (List ℕ) → List
    (ActionOf E K)
command_actions scope wires words =
    source_actions wires.input In ++ (source_actions wires.output Out
    ++ (source_actions wires.error Err
    ++ action.spawn scope words (ports_at wires) ∷ []))

-- the scope inside a node, by the scope around it
abbrev pub scope_inside : {E H : Type 0} → NodeStep E H → Scope E H → Scope E H
scope_inside node scope = record {
  folder = option_or node.folder scope.folder;
  changes = node.changes ++ scope.changes;
  hooks = scope.hooks ++ node.hooks;
}

-- three values, with this one for stdin
abbrev pub with_input : {X : Type 0} → X → PerStream X → PerStream X
with_input x three = record three { input = x }

-- three values, with this one for stdout
abbrev pub with_output : {X : Type 0} → X → PerStream X → PerStream X
with_output x three = record three { output = x }

-- three values, with this one for stderr
abbrev pub with_error : {X : Type 0} → X → PerStream X → PerStream X
with_error x three = record three { error = x }

-- the depth of the stack inside a node that opens this
abbrev pub depth_inside : RowOpening → ℕ → ℕ
depth_inside opens_nothing n = n
depth_inside (opens_input bytes) n = n + 2
depth_inside (opens_read path) n = n + 1
depth_inside (opens_create path) n = n + 1
depth_inside (opens_capture which) n = n

-- what a node opens over a stack of this depth, as a source
abbrev pub opened_source : {E : Type 0} → RowOpening → ℕ → StreamSource E
opened_source opens_nothing n = nothing
opened_source (opens_input bytes) n = slot (n + 1)
opened_source (opens_read path) n = slot n
opened_source (opens_create path) n = slot n
opened_source (opens_capture which) n = captured which

-- the source of a stream inside a node, by its route, by the sources of the streams outside it and
-- by the source of what the node opens
abbrev pub source_inside : {K E : Type 0} → (K → StreamSource E) → Route K E → StreamSource E
    → StreamSource E
source_inside outer (as_outside stream) opened = outer stream
source_inside outer to_nothing opened = nothing
source_inside outer (to_lent end) opened = lent end
source_inside outer to_opened opened = opened

-- what is for stdout or for stderr, of what is for each stream
abbrev pub on_side : {X : Type 0} → PerStream X → Side → X
on_side three side.Out = three.output
on_side three side.Err = three.error

-- the sources inside a node of this row
abbrev pub sources_inside : {E H : Type 0} → Row E H → ℕ → PerStream (StreamSource E)
    → PerStream (StreamSource E)
sources_inside row n w =
    let opened = opened_source row.opens n in
    record {
      input = source_inside (λ stream. w.input) row.input opened;
      output = source_inside (on_side w) row.output opened;
      error = source_inside (on_side w) row.error opened;
    }

-- the inner actions of a node, with the actions for what the node opens around them
abbrev pub actions_around : {E K : Type 0} → RowOpening → List (ActionOf E K) → List (ActionOf E K)
actions_around opens_nothing inside = inside
actions_around (opens_input bytes) inside =
    action.input ∷ (inside ++ (action.close ∷ action.feed bytes ∷ []))
actions_around (opens_read path) inside = action.open_read path ∷ (inside ++ action.close ∷ [])
actions_around (opens_create path) inside = action.create path ∷ (inside ++ action.close ∷ [])
actions_around (opens_capture which) inside = action.capture which ∷ inside

-- the scope inside a node that sets this, if it sets something
abbrev pub scope_if : {E H : Type 0} → Option (SettingView E H) → Scope E H → Scope E H
scope_if None scope = scope
scope_if (Some says) scope = scope_inside (step_of_setting says) scope

-- the actions of a tree in this scope and with these sources, over a stack of this depth
abbrev pub actions_of_subtree : {E H : Type 0} → Scope E H → PerStream (StreamSource E)
    → TreeView E H → ℕ → List (Action E H)
actions_of_subtree s w (command words) n = command_actions s w words
actions_of_subtree s w (pipe left right) n =
    action.pipe ∷ (actions_of_subtree s (with_output (slot (n + 1)) w) left (n + 2)
    ++ (action.close ∷ (actions_of_subtree s (with_input (slot n) w) right (n + 1) ++ action.close
    ∷ [])))
actions_of_subtree s w (around modifier inner) n =
    let r = row modifier in
    actions_around r.opens (actions_of_subtree (scope_if r.says s) (sources_inside r n w) inner
    (depth_inside r.opens n))

-- the scope of the root, which is empty
abbrev pub root_scope : {E H : Type 0} → Scope E H
root_scope = record { folder = None; changes = []; hooks = [] }

-- the sources of the root, which are the parent's streams
abbrev pub root_sources : {E : Type 0} → PerStream (StreamSource E)
root_sources = record { input = parents In; output = parents Out; error = parents Err }

-- the actions of a whole tree
abbrev pub actions_of : {E H : Type 0} → TreeView E H → List (Action E H)
actions_of tree = actions_of_subtree root_scope root_sources tree 0

-- the target is an end that a request of the plan got
abbrev pub IsGot : {E : Type 0} → Target E → Type 0
IsGot (Parents stream) = ⊥
IsGot Nothing = ⊥
IsGot (ReaderAt place) = Unit {0}
IsGot (WriterAt place) = Unit {0}
IsGot (FileAt place) = Unit {0}
IsGot (Lends end) = ⊥

-- whether a stream is stdin
abbrev pub is_stdin : Stream → Bool
is_stdin In = true
is_stdin Out = false
is_stdin Err = false

-- a source leads to a target; the boolean tells whether it is the source of stdin
pub data SourceLeadsTo {E H : Type 0} (number_of : E → ℕ) (base : ℕ) (state : State E H)
    : Bool → StreamSource E → Target E → Type 0 where
  is_in : SourceLeadsTo number_of base state true (parents In) (Parents In)
  is_out : SourceLeadsTo number_of base state false (parents Out) (Parents Out)
  is_err : SourceLeadsTo number_of base state false (parents Err) (Parents Err)
  is_nothing : (b : Bool) → SourceLeadsTo number_of base state b nothing Nothing
  is_slot : (b : Bool) (depth : ℕ) (x : Target E) → IsGot x → at_depth state.stack depth ≡ Some x
      → SourceLeadsTo number_of base state b (slot depth) x
  is_captured : (b : Bool) (which : Side) (place : ℕ) → capture_place which state.plan ≡ Some place
      → SourceLeadsTo number_of base state b (captured which) (WriterAt place)
  is_lent : (b : Bool) (end : E) → number_of end < base
      → SourceLeadsTo number_of base state b (lent end) (Lends end)

-- scope and sources fit the surroundings: the folder, the changes and the hooks are the same, each
-- source leads to the target of its stream, and the ends of the hooks have numbers below `base`
pub record SourcesFit {E H : Type 0} (number_of : E → ℕ) (base : ℕ) (state : State E H)
    (scope : Scope E H) (wires : PerStream (StreamSource E))
    (found : Surroundings E H) : Type 0 where
  pub folder : found.folder ≡ scope.folder
  pub changes : found.changes ≡ scope.changes
  pub hooks : found.hooks ≡ scope.hooks
  pub input : SourceLeadsTo number_of base state true wires.input found.input
  pub output : SourceLeadsTo number_of base state false wires.output found.output
  pub error : SourceLeadsTo number_of base state false wires.error found.error
  pub below : AreBelow number_of base scope.hooks

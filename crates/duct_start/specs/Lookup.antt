-- The surroundings of a command, looked up node by node on its path to the root.
use Rattle.std.specs.Prelude.{ℕ, List, [], ◌∷◌, ◌++◌, None, Option}
use Rattle.std.specs.Option.{option_or}
use Rattle.duct_system.specs.declared.spec.Stream.{Stream}
use Rattle.duct_system.specs.declared.spec.Stream.TheVariants.{In, Out, Err}
use Rattle.duct_start.specs.Surroundings.{Surroundings, Target, Parents, VariableChange}
use Rattle.duct_start.specs.Step.{Turn, Decides, DefersTo, NodeStep, left_step, right_step, step}
use Rattle.duct_start.specs.TreeView.{ModifierView}

-- one segment of a path, which is a node around a command: a pipe, entered from its left or its
-- right side, or a modifier; each with its place in the plan
pub data PathSegment (E H : Type 0) : Type 0 where
  left_of : ℕ → PathSegment E H
  right_of : ℕ → PathSegment E H
  within : ℕ → ModifierView E H → PathSegment E H

-- the nodes around a command, the nearest first
abbrev pub Path : Type 0 → Type 0 → Type 0
Path E H = List (PathSegment E H)

-- the place of a node
abbrev pub segment_place : {E H : Type 0} → PathSegment E H → ℕ
segment_place (left_of place) = place
segment_place (right_of place) = place
segment_place (within place modifier) = place

-- what a node does
abbrev pub step_of : {E H : Type 0} → PathSegment E H → NodeStep E H
step_of (left_of place) = left_step
step_of (right_of place) = right_step
step_of (within place modifier) = step modifier

-- where a stream goes, by the turn of a node and by where the streams go further out
abbrev pub resolved_turn : {E : Type 0} → Turn E → (Stream → Target E) → Target E
resolved_turn (Decides target) outer = target
resolved_turn (DefersTo stream) outer = outer stream

-- where a stream goes: the nearest node that decides the stream says where; a node that lets it
-- follow another stream only changes which stream is looked up further out
abbrev pub stream_goes : {E H : Type 0} → Path E H → Stream → Target E
stream_goes [] stream = Parents stream
stream_goes (segment ∷ up) stream =
    resolved_turn ((step_of segment).turn (segment_place segment) stream)
    (λ outer. stream_goes up outer)

-- the folder of the nearest node that sets one
abbrev pub folder_on : {E H : Type 0} → Path E H → Option (List ℕ)
folder_on [] = None
folder_on (segment ∷ up) = option_or (step_of segment).folder (folder_on up)

-- the changes of variables, the nearest first
abbrev pub changes_on : {E H : Type 0} → Path E H → List VariableChange
changes_on [] = []
changes_on (segment ∷ up) = (step_of segment).changes ++ changes_on up

-- the hooks, the outermost first, each with its ends
abbrev pub hooks_on : {E H : Type 0} → Path E H → List (H × List E)
hooks_on [] = []
hooks_on (segment ∷ up) = hooks_on up ++ (step_of segment).hooks

-- the surroundings of a command on this path
abbrev pub surroundings_on : {E H : Type 0} → Path E H → Surroundings E H
surroundings_on up = record {
  folder = folder_on up;
  changes = changes_on up;
  input = stream_goes up In;
  output = stream_goes up Out;
  error = stream_goes up Err;
  hooks = hooks_on up;
}

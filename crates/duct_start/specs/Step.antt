-- What one node of a tree does: the requests that it makes, how it redirects streams, and what it
-- sets of folder, variables and hooks.
use Rattle.std.specs.Prelude.{ℕ, List, [], ◌∷◌, Some, None, Option}
use Rattle.duct_system.specs.declared.spec.Stream.{Stream}
use Rattle.duct_system.specs.declared.spec.Stream.TheVariants.{In, Out, Err}
use Rattle.duct_system.specs.declared.system.Side.{Side}
use Rattle.duct_system.specs.declared.system.Side.TheVariants as side
use Rattle.duct_start.specs.Surroundings.{Surroundings, Target, Nothing, ReaderAt, WriterAt, FileAt, Lends, VariableChange}
use Rattle.duct_start.specs.Row.{RowOpening, Row, SettingView, Route, opens_nothing, opens_input, opens_read, opens_create, opens_capture, as_outside, to_nothing, to_lent, to_opened, says_folder, says_change, says_hook, row}
use Rattle.duct_start.specs.TreeView.{ModifierView}

-- one request of a plan. The request for a canonical path holds the program; a spawn holds the
-- surroundings and the words of its command. A worker and the reader get an end of the pipe that
-- the item at this place opened
pub data Item (E H : Type 0) : Type 0 where
  AskEnvironment : Item E H
  AskPipe : Item E H
  AskOpenRead : List ℕ → Item E H
  AskCreate : List ℕ → Item E H
  AskCanonicalize : List ℕ → Item E H
  AskSpawn : Surroundings E H → List (List ℕ) → Item E H
  AskFeed : ℕ → List ℕ → Item E H
  AskDrain : ℕ → Item E H
  AskReader : ℕ → Item E H

-- what a node requests before its inner expression: nothing, an item of its own, or the one capture
-- pipe of this side
pub data Opening (E H : Type 0) : Type 0 where
  OpensNothing : Opening E H
  Opens : Item E H → Opening E H
  Captures : Side → Opening E H

-- what a node does to a stream: it decides where the stream goes, or tells which stream to look up
-- further out
pub data Turn (E : Type 0) : Type 0 where
  Decides : Target E → Turn E
  DefersTo : Stream → Turn E

-- what a node does; its place is that of the item that it adds or, for a capture, that of its
-- stream's one capture pipe
pub record NodeStep (E H : Type 0) : Type 0 where
  pub opening : Opening E H
  pub closing : ℕ → List (Item E H)
  pub turn : ℕ → Stream → Turn E
  pub folder : Option (List ℕ)
  pub changes : List VariableChange
  pub hooks : List (H × List E)

-- the turns of a node that redirects stdin and leaves the other streams as they are
abbrev pub at_stdin : {E : Type 0} → Turn E → Stream → Turn E
at_stdin turn In = turn
at_stdin turn Out = DefersTo Out
at_stdin turn Err = DefersTo Err

-- the same for stdout
abbrev pub at_stdout : {E : Type 0} → Turn E → Stream → Turn E
at_stdout turn In = DefersTo In
at_stdout turn Out = turn
at_stdout turn Err = DefersTo Err

-- a node that does nothing
abbrev pub idle_step : {E H : Type 0} → NodeStep E H
idle_step = record {
  opening = OpensNothing;
  closing = λ place. [];
  turn = λ place stream. DefersTo stream;
  folder = None;
  changes = [];
  hooks = [];
}

-- what a pipe does to its left side, and to its right side
abbrev pub left_step : {E H : Type 0} → NodeStep E H
left_step = record idle_step { turn = λ place. at_stdout (Decides (WriterAt place)) }

abbrev pub right_step : {E H : Type 0} → NodeStep E H
right_step = record idle_step { turn = λ place. at_stdin (Decides (ReaderAt place)) }

-- the request that a node makes for what it opens
abbrev pub opening_of : {E H : Type 0} → RowOpening → Opening E H
opening_of opens_nothing = OpensNothing
opening_of (opens_input bytes) = Opens AskPipe
opening_of (opens_read path) = Opens (AskOpenRead path)
opening_of (opens_create path) = Opens (AskCreate path)
opening_of (opens_capture which) = Captures which

-- the requests that it makes for that after its inner expression
abbrev pub closing_of : {E H : Type 0} → RowOpening → ℕ → List (Item E H)
closing_of (opens_input bytes) place = AskFeed place bytes ∷ []
closing_of opens_nothing place = []
closing_of (opens_read path) place = []
closing_of (opens_create path) place = []
closing_of (opens_capture which) place = []

-- the target that a node has by what it opens at this place
abbrev pub opened_target : {E : Type 0} → RowOpening → ℕ → Target E
opened_target opens_nothing place = Nothing
opened_target (opens_input bytes) place = ReaderAt place
opened_target (opens_read path) place = FileAt place
opened_target (opens_create path) place = FileAt place
opened_target (opens_capture which) place = WriterAt place

-- the stream of a side
abbrev pub stream_on : Side → Stream
stream_on side.Out = Out
stream_on side.Err = Err

-- what a node does to a stream that has this route, where K names streams in this way
abbrev pub turn_of : {K E : Type 0} → (K → Stream) → RowOpening → ℕ → Route K E → Turn E
turn_of outer opens place (as_outside stream) = DefersTo (outer stream)
turn_of outer opens place to_nothing = Decides Nothing
turn_of outer opens place (to_lent end) = Decides (Lends end)
turn_of outer opens place to_opened = Decides (opened_target opens place)

-- what a node of this row does to each stream
abbrev pub row_turn : {E H : Type 0} → Row E H → ℕ → Stream → Turn E
row_turn row place In = turn_of (λ stream. In) row.opens place row.input
row_turn row place Out = turn_of stream_on row.opens place row.output
row_turn row place Err = turn_of stream_on row.opens place row.error

-- what a node does that sets only this
abbrev pub step_of_setting : {E H : Type 0} → SettingView E H → NodeStep E H
step_of_setting (says_folder path) = record idle_step { folder = Some path }
step_of_setting (says_change change) = record idle_step { changes = change ∷ [] }
step_of_setting (says_hook hook ends) = record idle_step { hooks = (hook, ends) ∷ [] }

abbrev pub step_if_setting : {E H : Type 0} → Option (SettingView E H) → NodeStep E H
step_if_setting None = idle_step
step_if_setting (Some says) = step_of_setting says

-- what a node of this row does
abbrev pub step_of_row : {E H : Type 0} → Row E H → NodeStep E H
step_of_row row = record (step_if_setting row.says) {
  opening = opening_of row.opens;
  closing = closing_of row.opens;
  turn = λ place stream. row_turn row place stream;
}

-- what each kind of modifier does
abbrev pub step : {E H : Type 0} → ModifierView E H → NodeStep E H
step modifier = step_of_row (row modifier)

-- How an expression ended: the outcome of the latest reports, and the core's replies to the
-- question and to each event.
use Rattle.std.specs.Prelude.{ℕ, ◌+◌, Bool, true, false, List, [], ◌∷◌, ◌++◌, Some, None, slice_get, ◌≡◌, MatchBool, Option}
use Rattle.duct_system.specs.declared.system.Fault.{Fault}
use Rattle.duct_system.specs.declared.system.Said.{Said}
use Rattle.duct_system.specs.declared.system.Side.{Side}
use Rattle.duct_system.specs.declared.system.Side.TheVariants.{Out, Err}
use Rattle.duct_system.specs.declared.system.Said.TheVariants as said
use Rattle.duct_status.specs.declared.status.Word.{Word}
use Rattle.duct_status.specs.declared.status.Word.TheVariants as word
use Rattle.duct_status.specs.ShapeView.{ShapeView, command, pipe, input, unchecked, command_count, input_count}
use Rattle.duct_status.specs.Latest.{Latest, latest_told, is_known}
use Rattle.duct_status.specs.declared.status.Drains.{Drains}
use Rattle.duct_status.specs.Winner.{is_checked_failure, IsWinner}
use Rattle.duct_status.specs.Endings.{Endings, Way, status_at, texts_at, endings_of}
use Rattle.duct_status.specs.Message.{IsMessage}
use Rattle.duct_status.specs.EventView.{EventView, from_command, from_input, from_drain, conclude}
use Rattle.duct_status.specs.ReplyView.{ReplyView, noted, unknown, pending, faulted, answered, failed, no_memory}

-- the report of a command in the form of a worker's, an exit status as Done; without a report it
-- runs
abbrev pub command_said : Option Word → Said (Unit {0})
command_said (Some (word.Ended status)) = said.Done tt
command_said (Some word.Running) = said.Running
command_said (Some (word.Fault fault)) = said.Fault fault
command_said None = said.Running

-- the report of an input worker; without a report it runs
abbrev pub input_said : Option (Said (Unit {0})) → Said (Unit {0})
input_said (Some heard) = heard
input_said None = said.Running

-- the reports of the commands, numbered from c, and of the input workers, numbered from i, in tree
-- order: left before right, and inner before outer
abbrev pub in_tree_order : ShapeView → ℕ → ℕ → List Word → List (Said (Unit {0}))
    → List (Said (Unit {0}))
in_tree_order (command texts) c i commands inputs = command_said (slice_get commands c) ∷ []
in_tree_order (pipe l r) c i commands inputs =
    in_tree_order l c i commands inputs
    ++ in_tree_order r (c + command_count l) (i + input_count l) commands inputs
in_tree_order (input t) c i commands inputs =
    in_tree_order t c i commands inputs ++ input_said (slice_get inputs (i + input_count t)) ∷ []
in_tree_order (unchecked t) c i commands inputs = in_tree_order t c i commands inputs

-- the first fault
abbrev pub first_fault : List (Said (Unit {0})) → Option Fault
first_fault [] = None
first_fault (said.Fault fault ∷ words) = Some fault
first_fault (said.Running ∷ words) = first_fault words
first_fault (said.Done value ∷ words) = first_fault words

-- whether something runs
abbrev pub some_runs : List (Said (Unit {0})) → Bool
some_runs [] = false
some_runs (said.Running ∷ words) = true
some_runs (said.Fault fault ∷ words) = some_runs words
some_runs (said.Done value ∷ words) = some_runs words

-- the outcome of the reports; finished has the bytes of stdout, then of stderr
pub data OutcomeView : Type 0 where
  waits : OutcomeView
  faults : Fault → OutcomeView
  finished : List ℕ → List ℕ → OutcomeView

-- the report of a capture worker; if there is none, no bytes are captured
abbrev pub captured : Option (Said (List ℕ)) → Said (List ℕ)
captured None = said.Done []
captured (Some heard) = heard

-- the stream whose capture worker decides and has not finished; none if a command or an input
-- worker decides
abbrev pub awaited_by : Option Fault → Bool → Said (List ℕ) → Said (List ℕ) → Option Side
awaited_by (Some fault) runs output error = None
awaited_by None true output error = None
awaited_by None false said.Running error = Some Out
awaited_by None false (said.Fault fault) error = None
awaited_by None false (said.Done bytes) said.Running = Some Err
awaited_by None false (said.Done bytes) (said.Fault fault) = None
awaited_by None false (said.Done bytes) (said.Done others) = None

-- the stream whose capture worker is still to be polled, by the latest reports
abbrev pub awaited : ShapeView → Latest → Option Side
awaited shape latest =
    let said = in_tree_order shape 0 0 latest.commands latest.inputs in
    awaited_by (first_fault said) (some_runs said) (captured latest.drains.out)
    (captured latest.drains.err)

-- the outcome by a capture worker's report: waits while it runs, its fault if it has one, else this
-- outcome of its bytes
abbrev pub with_bytes : Said (List ℕ) → (List ℕ → OutcomeView) → OutcomeView
with_bytes said.Running next = waits
with_bytes (said.Fault fault) next = faults fault
with_bytes (said.Done bytes) next = next bytes

-- the fault if there is one, else waits if something runs, else this outcome
abbrev pub ended : Option Fault → Bool → OutcomeView → OutcomeView
ended (Some fault) runs next = faults fault
ended None true next = waits
ended None false next = next

-- the first fault in tree order; else waits if something runs; else stdout's capture worker
-- decides, then stderr's
abbrev pub outcome : ShapeView → Latest → OutcomeView
outcome shape words =
    let said = in_tree_order shape 0 0 words.commands words.inputs in
    ended (first_fault said) (some_runs said)
    (with_bytes (captured words.drains.out)
    (λ out. with_bytes (captured words.drains.err) (λ err. finished out err)))

-- the reply for this command: its message if it failed and no unchecked wraps it, else its exit
-- status with the captured bytes; or no_memory, if the reply or one more owner of it couldn't be
-- made
abbrev pub AnswersFor : (t : Endings) → Way t → List ℕ → List ℕ → ReplyView → Type 0
AnswersFor t way output error (answered status out err) =
    (is_checked_failure t way ≡ false) × (status ≡ status_at t way) × (out ≡ output) × (err ≡ error)
AnswersFor t way output error (failed text) =
    (is_checked_failure t way ≡ true) × IsMessage (texts_at t way) (status_at t way) text
AnswersFor t way output error no_memory = Unit {0}
AnswersFor t way output error noted = ⊥
AnswersFor t way output error unknown = ⊥
AnswersFor t way output error pending = ⊥
AnswersFor t way output error (faulted fault) = ⊥

-- the reply for the winning command
abbrev pub AnswersWinner : Endings → List ℕ → List ℕ → ReplyView → Type 0
AnswersWinner t output error reply =
    (winner : Way t) × IsWinner t winner × AnswersFor t winner output error reply

-- the reply that an outcome gives
abbrev pub AnswersOutcome : OutcomeView → Endings → ReplyView → Type 0
AnswersOutcome waits t reply = reply ≡ pending
AnswersOutcome (faults fault) t reply = reply ≡ faulted fault
AnswersOutcome (finished output error) t reply = AnswersWinner t output error reply

-- the reply is that of the outcome of these latest reports
abbrev pub Concludes : ShapeView → Latest → ReplyView → Type 0
Concludes shape words reply =
    AnswersOutcome (outcome shape words) (endings_of shape 0 words.commands) reply

-- the reply to one event, by the latest reports before it
abbrev pub Responds : ShapeView → Latest → EventView → ReplyView → Type 0
Responds shape words conclude reply = Concludes shape words reply
Responds shape words (from_command k heard) reply =
    MatchBool (is_known shape words (from_command k heard)) (reply ≡ noted) (reply ≡ unknown)
Responds shape words (from_input k heard) reply =
    MatchBool (is_known shape words (from_input k heard)) (reply ≡ noted) (reply ≡ unknown)
Responds shape words (from_drain side heard) reply =
    MatchBool (is_known shape words (from_drain side heard)) (reply ≡ noted) (reply ≡ unknown)

-- one reply for each event, each by the reports before it
abbrev pub RespondsToAll : ShapeView → Drains → List EventView → List EventView → List ReplyView
    → Type 0
RespondsToAll shape drains before [] replies = replies ≡ []
RespondsToAll shape drains before (event ∷ events) [] = ⊥
RespondsToAll shape drains before (event ∷ events) (reply ∷ replies) =
    Responds shape (latest_told shape drains before) event reply
    × RespondsToAll shape drains (before ++ event ∷ []) events replies

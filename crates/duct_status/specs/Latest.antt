-- The latest reports of all commands and workers of a shape: taken from the whole list of events,
-- and updated by one more event.
use Rattle.std.specs.Prelude.{ℕ, Bool, true, false, ◌==◌, if◌then◌else◌, List, [], ◌∷◌, Some, None, zero, suc, nat_lt, is_some, map, slice_get, option_map, Option}
use Rattle.duct_system.specs.declared.system.ExitStatus.{ExitStatus}
use Rattle.duct_system.specs.declared.system.Said.{Said}
use Rattle.duct_system.specs.declared.system.Said.TheVariants as said
use Rattle.duct_system.specs.declared.system.Side.{Side}
use Rattle.duct_system.specs.declared.system.Side.TheVariants as side
use Rattle.duct_status.specs.declared.status.Word.{Word}
use Rattle.duct_status.specs.declared.status.Word.TheVariants as word
use Rattle.duct_status.specs.EventView.{EventView, from_command, from_input, from_drain, conclude}
use Rattle.std.specs.List.{range_with_len}
use Rattle.duct_system.specs.declared.system.Side.TheVariants.{Out, Err}
use Rattle.duct_status.specs.declared.status.Drains.{Drains}
use Rattle.duct_status.specs.PerSide.{at_side, with_side}
use Rattle.duct_status.specs.declared.per_side.PerSide.{PerSide}
use Rattle.duct_status.specs.ShapeView.{ShapeView, command_count, input_count}
use Rattle.duct_system.specs.Job.{kept_after}

-- the reports of command k, oldest first
abbrev pub words_of_command : ℕ → List EventView → List Word
words_of_command k [] = []
words_of_command k (from_command j word ∷ told) =
    if j == k then word ∷ words_of_command k told else words_of_command k told
words_of_command k (from_input i heard ∷ told) = words_of_command k told
words_of_command k (from_drain side heard ∷ told) = words_of_command k told
words_of_command k (conclude ∷ told) = words_of_command k told

-- the reports of input worker k, oldest first
abbrev pub words_of_input : ℕ → List EventView → List (Said (Unit {0}))
words_of_input k [] = []
words_of_input k (from_command j word ∷ told) = words_of_input k told
words_of_input k (from_input i heard ∷ told) =
    if i == k then heard ∷ words_of_input k told else words_of_input k told
words_of_input k (from_drain side heard ∷ told) = words_of_input k told
words_of_input k (conclude ∷ told) = words_of_input k told

-- whether the streams are the same
abbrev pub is_same_side : Side → Side → Bool
is_same_side side.Out side.Out = true
is_same_side side.Err side.Err = true
is_same_side side.Out side.Err = false
is_same_side side.Err side.Out = false

-- the reports of the capture worker of a stream, oldest first
abbrev pub words_of_drain : Side → List EventView → List (Said (List ℕ))
words_of_drain stream [] = []
words_of_drain stream (from_command j word ∷ told) = words_of_drain stream told
words_of_drain stream (from_input i heard ∷ told) = words_of_drain stream told
words_of_drain stream (from_drain other heard ∷ told) =
    if is_same_side other stream then heard ∷ words_of_drain stream told
    else words_of_drain stream told
words_of_drain stream (conclude ∷ told) = words_of_drain stream told

-- the first exit status among these reports
abbrev pub first_ending : List Word → Option ExitStatus
first_ending [] = None
first_ending (word.Ended status ∷ words) = Some status
first_ending (word.Running ∷ words) = first_ending words
first_ending (word.Fault fault ∷ words) = first_ending words

-- the last of these reports, or this one if there is none
abbrev pub last_or : Word → List Word → Word
last_or none [] = none
last_or none (word ∷ words) = last_or word words

-- an exit status, or this report if there is none
abbrev pub ended_or : Option ExitStatus → Word → Word
ended_or (Some status) other = word.Ended status
ended_or None other = other

-- the latest report of command k: its first exit status, else its last report, else Running
abbrev pub latest_of_command : ℕ → List EventView → Word
latest_of_command k told =
    let words = words_of_command k told
    in ended_or (first_ending words) (last_or word.Running words)

-- the first Done or Fault, or Running if there is none
abbrev pub first_result : {T : Type 0} → List (Said T) → Said T
first_result [] = said.Running
first_result (said.Running ∷ words) = first_result words
first_result (said.Done value ∷ words) = said.Done value
first_result (said.Fault fault ∷ words) = said.Fault fault

-- the latest report of input worker k: its first Done or Fault, else Running
abbrev pub latest_of_input : ℕ → List EventView → Said (Unit {0})
latest_of_input k told = first_result (words_of_input k told)

-- the latest report of the capture worker of a stream: its first Done or Fault, else Running
abbrev pub latest_of_drain : Side → List EventView → Said (List ℕ)
latest_of_drain stream told = first_result (words_of_drain stream told)

-- the latest report of each command and each input worker, by its number, and of the capture worker
-- of each stream, if there is one
pub record Latest : Type 0 where
  pub commands : List Word
  pub inputs : List (Said (Unit {0}))
  pub drains : PerSide (Option (Said (List ℕ)))

-- the latest reports after these events
abbrev pub latest_told : ShapeView → Drains → List EventView → Latest
latest_told shape drains told = record {
  commands = map (λ k. latest_of_command k told) (range_with_len 0 (command_count shape));
  inputs = map (λ k. latest_of_input k told) (range_with_len 0 (input_count shape));
  drains = record {
    out = if drains.out then Some (latest_of_drain Out told) else None;
    err = if drains.err then Some (latest_of_drain Err told) else None;
  };
}

-- the report that a command has after one more: a command that has ended keeps its exit status
abbrev pub word_after : Word → Word → Word
word_after (word.Ended status) heard = word.Ended status
word_after word.Running heard = heard
word_after (word.Fault fault) heard = heard

-- the list with its k-th item changed
abbrev pub change_at : {T : Type 0} → (T → T) → ℕ → List T → List T
change_at change k [] = []
change_at change zero (x ∷ xs) = change x ∷ xs
change_at change (suc k) (x ∷ xs) = x ∷ change_at change k xs

-- the latest reports after one more event: a report that names nothing that is there, and the
-- question, change nothing
abbrev pub latest_after : Latest → EventView → Latest
latest_after words (from_command k heard) =
    record words { commands = change_at (λ old. word_after old heard) k words.commands }
latest_after words (from_input k heard) =
    record words { inputs = change_at (λ old. kept_after old heard) k words.inputs }
latest_after words (from_drain side heard) =
    let kept = option_map (λ old. kept_after old heard) (at_side words.drains side) in
    record words { drains = with_side words.drains side kept }
latest_after words conclude = words

-- whether the event names a command, an input worker or a capture worker that is there
abbrev pub is_known : ShapeView → Latest → EventView → Bool
is_known shape words (from_command k heard) = nat_lt k (command_count shape)
is_known shape words (from_input k heard) = nat_lt k (input_count shape)
is_known shape words (from_drain side heard) = is_some (at_side words.drains side)
is_known shape words conclude = true

-- whether there is a report, and not that of a command that has ended
abbrev pub is_word_due : Option Word → Bool
is_word_due None = false
is_word_due (Some (word.Ended status)) = false
is_word_due (Some word.Running) = true
is_word_due (Some (word.Fault fault)) = true

-- whether there is a command k that has not ended
abbrev pub is_due : Latest → ℕ → Bool
is_due words k = is_word_due (slice_get words.commands k)

-- whether there is a worker that has not finished, by its report
abbrev pub is_said_due : Option (Said (Unit {0})) → Bool
is_said_due None = false
is_said_due (Some said.Running) = true
is_said_due (Some (said.Done value)) = false
is_said_due (Some (said.Fault fault)) = false

-- whether there is an input worker k that has not finished
abbrev pub is_input_due : Latest → ℕ → Bool
is_input_due latest k = is_said_due (slice_get latest.inputs k)

-- What the core stores: its reports, and an answer or a message that fits them.
use Rattle.std.specs.Prelude.{◌≡◌, ℕ, Bool, true, false, List, [], Some, None, string_bytes, option_map, Option, String, Vec}
use Rattle.std.specs.Arc.{arc_value}
use Rattle.std.specs.declared.alloc.Global.{Global}
use Rattle.std.specs.declared.sync.Arc.{Arc}
use Rattle.duct_system.specs.declared.system.Output.{Output}
use Rattle.duct_system.specs.declared.system.Said.{Said}
use Rattle.duct_status.specs.declared.status.Reply.{Reply}
use Rattle.duct_status.specs.declared.status.Reply.TheVariants as reply
use Rattle.duct_status.specs.declared.status.Word.{Word}
use Rattle.duct_status.specs.Winner.{chosen, is_checked_failure}
use Rattle.duct_status.specs.Endings.{status_at, texts_at, endings_of}
use Rattle.duct_status.specs.Message.{IsMessage}
use Rattle.duct_status.specs.EventView.{bytes_said}
use Rattle.duct_status.specs.PerSide.{map_sides}
use Rattle.duct_status.specs.declared.per_side.PerSide.{PerSide}
use Rattle.duct_status.specs.ShapeView.{ShapeView}
use Rattle.duct_status.specs.ReplyView.{ReplyView, reply_view}
use Rattle.duct_status.specs.Outcome.{OutcomeView, waits, faults, finished, outcome}
use Rattle.duct_status.specs.Latest.{Latest}

-- the latest reports in these fields
abbrev pub latest_of : List Word → List (Said (Unit {0}))
    → PerSide (Option (Said (Arc (Vec ℕ Global) Global))) → Latest
latest_of commands inputs drains = record {
  commands = commands;
  inputs = inputs;
  drains = map_sides (option_map bytes_said) drains;
}

-- whether the outcome says that all have ended
abbrev pub is_finished : OutcomeView → Bool
is_finished (finished output error) = true
is_finished waits = false
is_finished (faults fault) = false

-- the bytes of stdout in an outcome
abbrev pub output_of : OutcomeView → List ℕ
output_of (finished output error) = output
output_of waits = []
output_of (faults fault) = []

-- the bytes of stderr in an outcome
abbrev pub error_of : OutcomeView → List ℕ
error_of (finished output error) = error
error_of waits = []
error_of (faults fault) = []

-- all have ended, the chosen command is no checked failure, and the output has its exit status and
-- the captured bytes
pub record FitsAnswer (shape : ShapeView) (words : Latest) (output : Output) : Type 0 where
  pub ended : is_finished (outcome shape words) ≡ true
  pub stdout : output.stdout.items ≡ output_of (outcome shape words)
  pub stderr : output.stderr.items ≡ error_of (outcome shape words)
  pub checked : is_checked_failure (endings_of shape 0 words.commands)
      (chosen (endings_of shape 0 words.commands)) ≡ false
  pub status : output.status
      ≡ status_at (endings_of shape 0 words.commands) (chosen (endings_of shape 0 words.commands))

-- all have ended, the chosen command is a checked failure, and the text is its message
pub record FitsMessage (shape : ShapeView) (words : Latest) (said : String Global) : Type 0 where
  pub ended : is_finished (outcome shape words) ≡ true
  pub checked : is_checked_failure (endings_of shape 0 words.commands)
      (chosen (endings_of shape 0 words.commands)) ≡ true
  pub text : IsMessage (texts_at (endings_of shape 0 words.commands)
      (chosen (endings_of shape 0 words.commands)))
      (status_at (endings_of shape 0 words.commands) (chosen (endings_of shape 0 words.commands)))
      (string_bytes said)

-- the reply was made for these reports: it is that of their outcome, and once all have ended the
-- answer, the message, or `Memory`
abbrev pub Fits : ShapeView → Latest → Reply → Type 0
Fits shape words reply.Pending = outcome shape words ≡ waits
Fits shape words (reply.Fault fault) = outcome shape words ≡ faults fault
Fits shape words (reply.Answer output) = FitsAnswer shape words (arc_value output)
Fits shape words (reply.Failed text) = FitsMessage shape words (arc_value text)
Fits shape words reply.Memory = is_finished (outcome shape words) ≡ true
Fits shape words reply.Noted = ⊥
Fits shape words reply.Unknown = ⊥

-- the final reply in these fields
abbrev pub standing_of : Option (Arc Output Global) → Option (Arc (String Global) Global)
    → Option ReplyView
standing_of (Some output) failure = Some (reply_view (reply.Answer output))
standing_of None (Some text) = Some (reply_view (reply.Failed text))
standing_of None None = None

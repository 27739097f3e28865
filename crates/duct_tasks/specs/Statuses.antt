-- How each command of an expression ended, by its report.
use Rattle.std.specs.Prelude.{ℕ, ◌++◌, ◌≡◌, Bool, true, false, not, List, [], ◌∷◌, map, pos, codes, string_bytes, IsSome, Some, None, Option}
use Rattle.std.specs.Arc.{arc_value}
use Rattle.duct_system.specs.Status.{is_success}
use Rattle.duct_system.specs.declared.system.ExitStatus.{ExitStatus}
use Rattle.duct_system.specs.declared.system.ExitStatus.TheVariants.{Signal}
use Rattle.duct_status.specs.Form.{Form, before, joined, plain, texts}
use Rattle.duct_status.specs.Message.{status_text}
use Rattle.duct_status.specs.ShapeView as shape
use Rattle.duct_status.specs.ShapeView.{ShapeView}
use Rattle.duct_status.specs.declared.status.Word.{Word}
use Rattle.duct_status.specs.declared.status.Word.TheVariants as word
use Rattle.duct_tasks.specs.declared.statuses.CommandStatus.{CommandStatus}

-- a command: its words, and how it ended, if it is known to have ended
pub record CommandView : Type 0 where
  pub words : List (List ℕ)
  pub status : Option ExitStatus

-- a command is known to have ended
abbrev pub HasEnded : CommandView → Type 0
HasEnded command = IsSome command.status

-- the words of a command
abbrev pub words_of : CommandStatus → List (List ℕ)
words_of command = map string_bytes (arc_value command.words).items

-- what contracts see of a command
abbrev pub command_view : CommandStatus → CommandView
command_view command = record { words = words_of command; status = command.status }

-- the words of each command of a shape, from left to right
abbrev pub commands_in : ShapeView → List (List (List ℕ))
commands_in (shape.command words) = words ∷ []
commands_in (shape.pipe left right) = commands_in left ++ commands_in right
commands_in (shape.input inner) = commands_in inner
commands_in (shape.unchecked inner) = commands_in inner

-- how a command ended, by its report
abbrev pub ending_in : Option Word → Option ExitStatus
ending_in (Some (word.Ended status)) = Some status
ending_in (Some word.Running) = None
ending_in (Some (word.Fault fault)) = None
ending_in None = None

-- commands of these words, each with its ending by its report, which may be missing
abbrev pub with_reports : List (List (List ℕ)) → List Word → List CommandView
with_reports [] reports = []
with_reports (words ∷ others) [] =
    record { words = words; status = None } ∷ with_reports others []
with_reports (words ∷ others) (report ∷ reports) =
    record { words = words; status = ending_in (Some report) } ∷ with_reports others reports

-- whether a command ended, and not with a success
abbrev pub has_failed : Option ExitStatus → Bool
has_failed (Some status) = not (is_success status)
has_failed None = false

-- of commands with these endings SIGPIPE ended each that failed, and the last one did not fail
abbrev pub OnlyPipesFailed : List (Option ExitStatus) → Type 0
OnlyPipesFailed [] = Unit {0}
OnlyPipesFailed (ending ∷ []) = has_failed ending ≡ false
OnlyPipesFailed (ending ∷ next ∷ others) =
    (has_failed ending ≡ true → ending ≡ Some (Signal (pos 13))) × OnlyPipesFailed (next ∷ others)

-- how a command ended, if it did
abbrev pub ending_text : Option ExitStatus → List ℕ
ending_text (Some status) = codes " exited with code " ++ status_text status
ending_text None = codes " has not ended"

-- a command with its words as std's forms print them, and how it ended
abbrev pub command_form : CommandView → Form
command_form command =
    before (joined (plain (codes "command ") ∷ texts command.words ∷ []))
    (plain (ending_text command.status))

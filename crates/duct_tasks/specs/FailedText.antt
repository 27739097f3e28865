-- The text of a failed run: how the commands that failed ended, and the last lines of stderr; and
-- that of a late one.
use Rattle.std.specs.Prelude.{ℕ, List, [], ◌∷◌, ◌++◌, ◌-◌, length, take, map, codes, drop, is_some, nat_eq, nat_le, ◌≡◌, ◌⊎◌, Some, None, if◌then◌else◌, string_bytes, Ok, Err, Option, String}
use Rattle.std.specs.Fmt.{◌++?◌}
use Rattle.std.specs.Io.BufRead.{drop_through}
use Rattle.std.specs.List.{ends_with}
use Rattle.std.specs.Option.{option_map}
use Rattle.std.specs.Str.{is_utf8}
use Rattle.std.specs.declared.alloc.Global.{Global}
use Rattle.duct_system.specs.declared.error.Error.{Error}
use Rattle.duct_status.specs.Form.{Form, before, plain, printed}
use Rattle.duct_tasks.specs.Statuses.{CommandView, command_form, command_view, has_failed}
use Rattle.duct_tasks.specs.declared.failed_run.FailedRun.{FailedRun}
use Rattle.duct_tasks.specs.declared.finished.TaskEnd.{TaskEnd}
use Rattle.duct_tasks.specs.declared.finished.TaskEnd.TheVariants as end

-- the last whole lines of these bytes, at most so many bytes: all bytes if they are no more, else
-- what follows the first `\n` from the byte before the last so many
abbrev pub last_lines : ℕ → List ℕ → List ℕ
last_lines most bytes =
    if nat_le (length bytes) most then bytes
    else drop_through 10 (drop (length bytes - most - 1) bytes)

-- the tail is the end of the bytes; it is empty, or it is all of them, or a `\n` is before it
abbrev pub BeginsLine : List ℕ → List ℕ → Type 0
BeginsLine bytes tail =
    (tail ≡ []) ⊎ ((tail ≡ bytes) ⊎ ((before : List ℕ) × (bytes ≡ before ++ 10 ∷ tail)))

-- each command that failed, with a lead before the first one and a newline before the others
abbrev pub failed_form : List ℕ → List CommandView → Form
failed_form lead [] = plain []
failed_form lead (command ∷ others) =
    if has_failed command.status
    then before (before (plain lead) (command_form command)) (failed_form (codes "\n") others)
    else failed_form lead others

-- each command that has not ended, with a lead before the first one and a newline before the others
abbrev pub hung_form : List ℕ → List CommandView → Form
hung_form lead [] = plain []
hung_form lead (command ∷ others) =
    if is_some command.status then hung_form lead others
    else before (before (plain lead) (command_form command)) (hung_form (codes "\n") others)

-- that commands were late, and which of them had not ended
abbrev pub late_form : List CommandView → Form
late_form commands = before (plain (codes "late")) (hung_form (codes ": ") commands)

-- bytes without the newline at their end, if there is one
abbrev pub without_newline : List ℕ → List ℕ
without_newline bytes =
    if ends_with nat_eq bytes (codes "\n") then take (length bytes - 1) bytes else bytes

-- bytes behind a line `--- stderr`, if there are any
abbrev pub behind_mark : List ℕ → List ℕ
behind_mark [] = []
behind_mark (byte ∷ bytes) = codes "\n--- stderr\n" ++ byte ∷ bytes

-- the same of bytes that are UTF-8; else no promise
abbrev pub stderr_text : List ℕ → Option (List ℕ)
stderr_text bytes = if is_utf8 bytes then Some (behind_mark bytes) else None

-- the text of a failed run, if its words are ASCII and its last lines UTF-8
abbrev pub failed_text : FailedRun → Option (List ℕ)
failed_text run =
    printed (failed_form [] (map command_view run.commands.items))
    ++? stderr_text (without_newline (last_lines run.most run.output.stderr.items))

-- what came of a task, as text: the request that was refused, or the commands that hung; no promise
-- of an error
abbrev pub finished_text : TaskEnd → Option Error → Option (String Global) → List CommandView
    → Option (List ℕ)
finished_text (end.Refused e) unread request commands = option_map string_bytes request
finished_text (end.Ended (Ok output)) None request commands = Some (codes "ended")
finished_text (end.Ended (Ok output)) (Some e) request commands = None
finished_text (end.Ended (Err e)) unread request commands = None
finished_text (end.Late late) unread request commands = printed (late_form commands)

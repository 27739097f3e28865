-- The message of a failure that is not unchecked.
use Rattle.std.specs.Prelude.{◌≡◌, ℕ, true, List, ◌++◌, Option, Some, codes}
use Rattle.std.specs.Fmt.{◌++?◌, debug_list, debug_str, signed_decimal}
use Rattle.std.specs.List.{list_all}
use Rattle.duct_system.specs.declared.system.ExitStatus.{ExitStatus}
use Rattle.duct_system.specs.declared.system.ExitStatus.TheVariants.{Code, Signal}
use Rattle.duct_status.specs.Form.{is_printable, quoted_list}

-- the code, or the signal as in `<signal 6>`
abbrev pub status_text : ExitStatus → List ℕ
status_text (Code code) = signed_decimal code
status_text (Signal signal) = codes "<signal " ++ signed_decimal signal ++ codes ">"

-- the command's words and how it ended, as in `command ["a", "b"] exited with code 1`
abbrev pub message : List (List ℕ) → ExitStatus → List ℕ
message texts status =
    codes "command " ++ quoted_list texts ++ codes " exited with code " ++ status_text status

-- the text is that message, if the words are printable ASCII
abbrev pub IsMessage : List (List ℕ) → ExitStatus → List ℕ → Type 0
IsMessage texts status text = list_all is_printable texts ≡ true → text ≡ message texts status

-- the message as std's forms print it; these are unspecified for a word that is not ASCII
abbrev pub printed_message : List (List ℕ) → ExitStatus → Option (List ℕ)
printed_message texts status =
    Some (codes "command ")
    ++? debug_list debug_str texts
    ++? Some (codes " exited with code ")
    ++? Some (status_text status)

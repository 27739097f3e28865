-- Commands that get their endings by their reports, one after the other.
use Rattle.std.proofs.Common.{◌≡◌, ◌<◌, ◌∙◌, ℕ, zero, suc, List, [], ◌∷◌, drop, length, map, refl, ap, arith, Option, slice_get, slice_index_or, slice_set}
use Rattle.duct_system.specs.declared.system.ExitStatus.{ExitStatus}
use Rattle.duct_status.specs.declared.status.Word.{Word}
use Rattle.duct_tasks.specs.Statuses.{CommandView, command_view, ending_in, with_reports, words_of}
use Rattle.duct_tasks.specs.declared.statuses.CommandStatus.{CommandStatus}

-- so many commands in front as they are, and those behind with their endings
abbrev pub noted_up_to : ℕ → List CommandStatus → List Word → List CommandView
noted_up_to zero commands reports = with_reports (map words_of commands) reports
noted_up_to (suc at) [] reports = []
noted_up_to (suc at) (command ∷ commands) reports =
    command_view command ∷ noted_up_to at commands (drop 1 reports)

-- those of all commands are there
pub noted_all : (commands : List CommandStatus) (reports : List Word)
    → noted_up_to (length commands) commands reports ≡ map command_view commands
noted_all [] reports = refl
noted_all (command ∷ commands) reports =
    ap (λ others. command_view command ∷ others) (noted_all commands (drop 1 reports))

later_get : (at : ℕ) (reports : List Word) → slice_get reports (suc at) ≡ slice_get (drop 1 reports) at
later_get at [] = refl
later_get at (report ∷ reports) = refl

-- the next command gets its ending
pub noted_next : (at : ℕ) (commands : List CommandStatus) (reports : List Word) (other : CommandStatus)
    (status : Option ExitStatus) → at < length commands → status ≡ ending_in (slice_get reports at)
    → noted_up_to (suc at) (slice_set commands at (record { words = (slice_index_or commands at other).words; status = status })) reports
    ≡ noted_up_to at commands reports
noted_next at [] reports other status less is = absurd (omega arith)
noted_next zero (command ∷ commands) [] other status less is =
    ap (λ s. record { words = words_of command; status = s } ∷ with_reports (map words_of commands) []) is
noted_next zero (command ∷ commands) (report ∷ reports) other status less is =
    ap (λ s. record { words = words_of command; status = s } ∷ with_reports (map words_of commands) reports) is
noted_next (suc at) (command ∷ commands) reports other status less is =
    ap (λ others. command_view command ∷ others)
    (noted_next at commands (drop 1 reports) other status (omega arith) (is ∙ ap ending_in (later_get at reports)))

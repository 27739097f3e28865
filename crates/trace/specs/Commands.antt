-- What `trace record` is asked for, what `trace judge` says of words and of the entries of a journal,
-- and what `trace replay` ran.
use Rattle.std.specs.Prelude.{ℕ, List, [], ◌∷◌, ◌≡◌, if◌then◌else◌, codes, Ok, Some, None, Option, map, slice_get, string_bytes, String}
use Rattle.std.specs.Fmt.{◌++?◌, decimal}
use Rattle.std.specs.Str.{bytes_eq}
use Rattle.std.specs.declared.alloc.Global.{Global}
use Rattle.duct_base.specs.EntryForm.{request_text}
use Rattle.duct_system.specs.EntryView.{EntryView}
use Rattle.duct_system.specs.Journal.{JournalView}
use Rattle.duct_start.specs.Chain.{Allows, Refuses}
use Rattle.duct_start.specs.TreeView.{TreeView}
use Rattle.duct_program.specs.Line.{meant}
use Rattle.duct_replay.specs.Judged.{Judges}
use Rattle.duct_replay.specs.RecordingView.{RecordingView}
use Rattle.duct_replay.specs.Replays.{ReplayView}
use Rattle.duct_replay.specs.declared.judgement.Verdict.{Verdict}
use Rattle.duct_replay.specs.declared.judgement.Verdict.TheVariants.{Yes, Differs, Ends, GoesOn}
use Rattle.duct_replay.specs.declared.write.Values.{Values}
use Rattle.duct_replay.specs.declared.write.Values.TheVariants.{Shown, Hidden}

-- values, a path, and the words behind the mark `--`, if it is there
abbrev pub marked : Values → List (List ℕ) → Option (Values × List ℕ × List (List ℕ))
marked values (path ∷ mark ∷ words) =
    if bytes_eq mark (codes "--") then Some (values, path, words) else None
marked values (path ∷ []) = None
marked values [] = None

-- what the arguments of `trace record` ask for: with `--hide` in front that no value is shown
abbrev pub record_of : List (List ℕ) → Option (Values × List ℕ × List (List ℕ))
record_of [] = None
record_of (first ∷ others) = if bytes_eq first (codes "--hide") then marked Hidden others
    else marked Shown (first ∷ others)

-- the arguments ask for a file at this path, and this holds of how values stand there
abbrev pub AsksFor : List (List ℕ) → List ℕ → (Values → Type 0) → Type 0
AsksFor arguments path holds = (values : Values) × (words : List (List ℕ))
    × (record_of arguments ≡ Some (values, path, words)) × holds values

-- the status for a verdict
abbrev pub verdict_status : Verdict → ℕ
verdict_status Yes = 0
verdict_status (Differs place) = 1
verdict_status (Ends place) = 1
verdict_status (GoesOn place) = 1

-- the text of the request at a place, where its paths, words and folder are printable ASCII
abbrev pub text_at : List EntryView → ℕ → Option (List ℕ)
text_at entries place = elim (slice_get entries place) [ Some entry ↦ request_text entry | None ↦ None ]

-- the line of a verdict on recorded entries, where the start made those
abbrev pub verdict_text : Verdict → List EntryView → List EntryView → Option (List ℕ)
verdict_text Yes recorded made = Some (codes "yes\n")
verdict_text (Differs place) recorded made =
    Some (codes "no: entry ") ++? Some (decimal place) ++? Some (codes " differs: ")
    ++? text_at recorded place ++? Some (codes " in place of ") ++? text_at made place
    ++? Some (codes "\n")
verdict_text (Ends place) recorded made =
    Some (codes "no: ends where ") ++? text_at made place ++? Some (codes " was due\n")
verdict_text (GoesOn place) recorded made =
    Some (codes "no: goes on at entry ") ++? Some (decimal place) ++? Some (codes "\n")

-- the words mean an expression, and this holds of the verdict on these entries by its start, and of
-- the entries that this made
abbrev pub IsJudged : {E H : Type 0} → Allows H → Refuses H → (E → ℕ) → List (List ℕ)
    → List EntryView → (Verdict → List EntryView → Type 0) → Type 0
IsJudged {E} {H} allows refuses number_of words recorded holds =
    (tree : TreeView E H) × (meant words ≡ Ok tree)
    × ((verdict : Verdict) × (made : JournalView)
    × Judges allows refuses number_of tree recorded verdict made × holds verdict made.entries)

-- this was done for these words over a replay of a recording, from before its first request to its
-- end, and to two writers, and no request differed
abbrev pub IsReplayed : {O W : Type 0} → RecordingView → List (String Global)
    → (List (List ℕ) → ReplayView → ReplayView → O → O → W → W → Type 0) → O × O → W × W → Type 0
IsReplayed recording words does out err =
    (begun ended : ReplayView) × (begun.recording ≡ recording) × (begun.journal.entries ≡ [])
    × (ended.difference ≡ None) × does (map string_bytes words) begun ended out.0 out.1 err.0 err.1

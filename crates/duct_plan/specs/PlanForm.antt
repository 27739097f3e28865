-- The text of a plan: a line for each request, with its place.
use Rattle.std.specs.Prelude.{ℕ, List, [], ◌∷◌, ◌+◌, codes, drop, length, if◌then◌else◌, Option}
use Rattle.duct_system.specs.declared.spec.Stream.{Stream}
use Rattle.duct_system.specs.declared.spec.Stream.TheVariants.{In, Out, Err}
use Rattle.duct_status.specs.Form.{Form, plain, quote, before, joined, each_form, of_text, of_number, text_of}
use Rattle.duct_base.specs.EntryForm.{folder_form}
use Rattle.duct_start.specs.Plan.{Plan, is_canonical, program_of}
use Rattle.duct_start.specs.Step.{Item, AskEnvironment, AskPipe, AskOpenRead, AskCreate, AskCanonicalize, AskSpawn, AskFeed, AskDrain, AskReader}
use Rattle.duct_start.specs.Surroundings.{Surroundings, Target, Parents, Nothing, ReaderAt, WriterAt, FileAt, Lends, VariableChange, Sets, Removes, Replaces}

-- where a stream goes that goes to this stream of the parent
abbrev pub parents_text : Stream → Stream → List ℕ
parents_text stream In = codes "inherited"
parents_text Out Out = codes "inherited"
parents_text Err Err = codes "inherited"
parents_text stream Out = codes "the parent's stdout"
parents_text stream Err = codes "the parent's stderr"

-- where a stream goes
abbrev pub target_form : {E : Type 0} → Stream → Target E → Form
target_form stream (Parents parents) = plain (parents_text stream parents)
target_form stream Nothing = plain (codes "nothing")
target_form stream (ReaderAt place) = of_number (codes "pipe ") place
target_form stream (WriterAt place) = of_number (codes "pipe ") place
target_form stream (FileAt place) = of_number (codes "file ") place
target_form stream (Lends end) = plain (codes "an end of the caller")

-- words, then a variable with its value
abbrev pub of_variable : List ℕ → List ℕ × List ℕ → Form
of_variable words variable =
    joined (plain words ∷ quote variable.0 ∷ plain (codes "=") ∷ quote variable.1 ∷ [])

-- a change of the variables
abbrev pub change_form : VariableChange → Form
change_form (Sets name value) = of_variable (codes " with ") (name, value)
change_form (Removes name) = of_text (codes " without ") name
change_form (Replaces vars) =
    before (plain (codes " with only")) (each_form (of_variable (codes " ")) vars)

-- a program: unknown where its canonical path is requested first
unfoldable pub program_form : {E H : Type 0} → Surroundings E H → List (List ℕ) → Form
program_form found words =
    if is_canonical found words then plain (codes "?") else quote (program_of words)

-- how many hooks may change the command, if any
abbrev pub hooks_form : {A : Type 0} → List A → Form
hooks_form [] = plain []
hooks_form (hook ∷ hooks) = of_number (codes ", hooks ") (length (hook ∷ hooks))

-- a stream of a command, by its name, and where it goes
unfoldable pub stream_form : {E : Type 0} → List ℕ → Stream → Target E → Form
stream_form name stream target = joined (plain name ∷ target_form stream target ∷ [])

-- what is started: a program, its arguments, its folder and its changes, the nearest first
unfoldable pub command_form : {E H : Type 0} → Surroundings E H → List (List ℕ) → Form
command_form found words =
    joined (program_form found words ∷ each_form (of_text (codes " ")) (drop 1 words)
    ∷ folder_form found.folder ∷ each_form change_form found.changes ∷ [])

-- the spawn of a command
unfoldable pub spawn_form : {E H : Type 0} → Surroundings E H → List (List ℕ) → Form
spawn_form found words =
    joined (plain (codes "spawn of ") ∷ command_form found words
    ∷ stream_form (codes ", stdin ") In found.input
    ∷ stream_form (codes ", stdout ") Out found.output
    ∷ stream_form (codes ", stderr ") Err found.error ∷ hooks_form found.hooks ∷ [])

-- one request
unfoldable pub item_form : {E H : Type 0} → Item E H → Form
item_form AskEnvironment = plain (codes "environment")
item_form AskPipe = plain (codes "pipe")
item_form (AskOpenRead path) = of_text (codes "open of ") path
item_form (AskCreate path) = of_text (codes "create of ") path
item_form (AskCanonicalize program) = of_text (codes "canonical path of ") program
item_form (AskSpawn found words) = spawn_form found words
item_form (AskFeed place bytes) = of_number (codes "input worker of pipe ") place
item_form (AskDrain place) = of_number (codes "capture worker of pipe ") place
item_form (AskReader place) = of_number (codes "reader of pipe ") place

-- the line of the request at this place
abbrev pub line_form : {E H : Type 0} → ℕ → Item E H → Form
line_form place item =
    joined (of_number [] place ∷ plain (codes " ") ∷ item_form item ∷ plain (codes "\n") ∷ [])

-- a line for each request, the first of which has this place
abbrev pub lines_form : {E H : Type 0} → ℕ → List (Item E H) → Form
lines_form place [] = plain []
lines_form place (item ∷ items) = before (line_form place item) (lines_form (place + 1) items)

-- the text of a plan, where all texts of it are printable ASCII; else no promise
abbrev pub plan_text : {E H : Type 0} → Plan E H → Option (List ℕ)
plan_text plan = text_of (lines_form 0 plan.items)

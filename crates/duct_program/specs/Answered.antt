-- What is returned for arguments, and what the program prints of that: one line, and its status.
use Rattle.std.specs.Prelude.{◌≡◌, ◌⊎◌, ℕ, List, Ok, Err, string_bytes, ◌++◌, IfSome, Some, None, codes, Option, Result, String}
use Rattle.std.specs.Io.KnownBytes.{Appends}
use Rattle.std.specs.declared.alloc.Global.{Global}
use Rattle.duct_system.specs.declared.error.Error.{Error}
use Rattle.duct_start.specs.Chain.{Allows, Refuses}
use Rattle.duct_start.specs.Plan.{plan_of_reader}
use Rattle.duct_start.specs.Running.{RunningView}
use Rattle.duct_start.specs.Start.{StartRefused, StartSucceeds}
use Rattle.duct_start.specs.TreeView.{TreeView}
use Rattle.duct_system.specs.SystemViews.{SystemViews}
use Rattle.duct_running.specs.Stored.{Bytes}
use Rattle.duct.specs.Launched.{Ran, ReadFails, Reads, added_between, reading}
use Rattle.duct_program.specs.Line.{meant}
use Rattle.duct_program.specs.declared.failure.Failure.{Failure}
use Rattle.duct_program.specs.declared.failure.Failure.TheVariants as failures
use Rattle.duct_program.specs.declared.usage.Usage.{Usage}
use Rattle.duct_program.specs.declared.usage.Usage.TheVariants.{EmptyCommand, MissingPath, MissingText, Memory}

-- the status for a failure: 2 where the arguments are wrong, otherwise 1
abbrev pub status_of : Failure → ℕ
status_of (failures.Usage Memory) = 1
status_of (failures.Usage usage) = 2
status_of (failures.Error error) = 1

-- the text of a usage error
abbrev pub usage_text : Usage → List ℕ
usage_text EmptyCommand = codes "empty command"
usage_text MissingText = codes "missing text"
usage_text MissingPath = codes "missing path"
usage_text Memory = codes "out of memory"

-- the text of a failure; that of an error of the expression is not specified here
abbrev pub failure_text : Failure → Option (List ℕ)
failure_text (failures.Usage usage) = Some (usage_text usage)
failure_text (failures.Error error) = None

-- the line of a text: the text and a newline
abbrev pub line_of_text : List ℕ → List ℕ
line_of_text text = text ++ codes "\n"

-- the line of an error's text: `host: `, the text and a newline
abbrev pub line_of_error : List ℕ → List ℕ
line_of_error text = line_of_text (codes "host: " ++ text)

-- the line of a failure's text is appended to the bytes of a writer
abbrev pub AppendsFailure : Failure → Option (List ℕ) → Option (List ℕ) → Type 0
AppendsFailure failure old new = (text : List ℕ)
    × IfSome (failure_text failure) (λ known. text ≡ known) × Appends old new (line_of_error text)

-- the line of a failure's text is appended, and the status is the failure's; or no memory is left
-- for that line, that is said in its place, and the status is 1
abbrev pub PrintsFailure : Failure → ℕ → Option (List ℕ) → Option (List ℕ) → Type 0
PrintsFailure failure status old new =
    ((status ≡ status_of failure) × AppendsFailure failure old new)
    ⊎ ((status ≡ 1) × AppendsFailure (failures.Usage Memory) old new)

-- if the result is a usage error, this holds of it
abbrev pub IfUsage : {A : Type 0} → Result A Failure → (Usage → Type 0) → Type 0
IfUsage answer holds = (usage : Usage) → answer ≡ Err (failures.Usage usage) → holds usage

-- if the failure is an error of the expression, this holds of it
abbrev pub IfRefused : Failure → (Error → Type 0) → Type 0
IfRefused (failures.Usage usage) holds = Unit {0}
IfRefused (failures.Error error) holds = holds error

-- the expression that arguments mean; its ends have these numbers, and its hooks this relation
abbrev pub line_of : {E H : Type 0} → (E → ℕ) → Allows H → List (List ℕ)
    → Result (TreeView E H) Usage
line_of number_of allows args = meant args

-- arguments mean an expression, and this holds of it
abbrev pub Means : {A : Type 0} → Result A Usage → (A → Type 0) → Type 0
Means {A} line holds = (tree : A) × (line ≡ Ok tree) × holds tree

module _ {S E C F D : Type 0} (views : SystemViews S E C F D (Unit {0}) Bytes) {H R : Type 0}
    (allows : Allows H) (may : ℕ → R → Type 0) (remaining : R → Option (List ℕ)) where
  -- the arguments mean an expression, which was started, and this is the text that it prints
  abbrev pub PrintsText : List (List ℕ) → S → S → String Global → Type 0
  PrintsText args sys after text =
      Means (line_of views.number_of allows args) (λ tree. StartSucceeds allows views.number_of tree
      (plan_of_reader tree) (views.journal sys) (views.journal after)
      × Reads views may remaining text reading tree (added_between views sys after))

  -- the arguments mean an expression, and its start failed with this error, or what was started did
  abbrev pub PrintsError : Refuses H → List (List ℕ) → S → S → Error → Type 0
  PrintsError refuses args sys after error =
      Means (line_of views.number_of allows args) (λ tree. StartRefused allows refuses
      views.number_of tree (plan_of_reader tree) (views.journal sys) (views.journal after) error
      ⊎ (StartSucceeds allows views.number_of tree (plan_of_reader tree) (views.journal sys)
      (views.journal after)
      × ((waited : RunningView C F D)
      × Ran views waited reading tree (added_between views sys after)
      × ReadFails views may remaining error waited reading tree (added_between views sys after))))

  -- the arguments mean an expression, and the line of the text that it prints is appended to what
  -- stdout has; stderr is unchanged
  abbrev pub WritesText : {O W : Type 0} → (O → Option (List ℕ)) → List (List ℕ) → S → S
      → O → O → W → W → Type 0
  WritesText contents args sys after out out_after err err_after = (text : String Global)
      × PrintsText args sys after text
      × Appends (contents out) (contents out_after) (line_of_text (string_bytes text))
      × (err_after ≡ err)

  -- the arguments are no valid line, no request is made, and the line of the usage error is
  -- appended to what stderr has; stdout is unchanged
  abbrev pub WritesUsage : {O W : Type 0} → (W → Option (List ℕ)) → List (List ℕ) → S → S
      → O → O → W → W → Type 0
  WritesUsage contents args sys after out out_after err err_after = (usage : Usage)
      × (line_of views.number_of allows args ≡ Err usage)
      × (views.journal after ≡ views.journal sys)
      × AppendsFailure (failures.Usage usage) (contents err) (contents err_after)
      × (out_after ≡ out)

-- What is printed of a line of words before anything runs.
use Rattle.std.specs.Prelude.{◌≡◌, ℕ, List, [], ◌∷◌, ◌++◌, Bool, true, false, IfSome, IsOk, codes, if◌then◌else◌, bytes_eq, Result}
use Rattle.duct_start.specs.Plan.{plan_of_reader}
use Rattle.duct_start.specs.TreeView.{TreeView}
use Rattle.duct_program.specs.Answered.{Means, usage_text}
use Rattle.duct_program.specs.Line.{meant}
use Rattle.duct_program.specs.declared.program.NoHook.{NoHook}
use Rattle.duct_program.specs.declared.usage.Usage.{Usage}
use Rattle.duct_plan.specs.PlanForm.{plan_text}
use Rattle.duct_plan.specs.declared.program.NoEnd.{NoEnd}

-- the expression that arguments mean, which has no ends of a caller and no hooks
abbrev pub line_of : List (List ℕ) → Result (TreeView NoEnd NoHook) Usage
line_of args = meant args

-- this is the text of what a line's start requests, where a text is promised
abbrev pub IsPreview : {E H : Type 0} → Result (TreeView E H) Usage → List ℕ → Type 0
IsPreview line text =
    Means line (λ tree. IfSome (plan_text (plan_of_reader tree)) (λ known. text ≡ known))

-- what the program's words ask for: whether a drawing, and the words of the line
abbrev pub asked_of : List (List ℕ) → Bool × List (List ℕ)
asked_of [] = (false, [])
asked_of (word ∷ words) =
    if bytes_eq word (codes "--dot") then (true, words) else (false, word ∷ words)

-- this is what the program prints of a line: its drawing, on whose text nothing is promised, or
-- the text of what its start requests
abbrev pub IsPrinted : Bool × List (List ℕ) → List ℕ → Type 0
IsPrinted (true, words) text = IsOk (line_of words)
IsPrinted (false, words) text = IsPreview (line_of words) text

-- the line of a usage error
abbrev pub usage_line : Usage → List ℕ
usage_line usage = codes "plan: " ++ usage_text usage ++ codes "\n"

-- What runs, waits and orders over the small system return.
use Rattle.std.specs.Prelude.{ℕ, List, [], ◌∷◌, ◌≡◌, ◌⊎◌, IfErr, IfOk, OnOk, is_some, string_bytes, Result}
use Rattle.std.specs.Arc.{arc_value}
use Rattle.std.specs.declared.alloc.Global.{Global}
use Rattle.std.specs.declared.sync.Arc.{Arc}
use Rattle.duct_system.specs.EntryView.{EntryView}
use Rattle.duct_system.specs.Started.{children_in}
use Rattle.duct_system.specs.declared.error.Error.{Error}
use Rattle.duct_system.specs.declared.error.Error.TheVariants as error
use Rattle.duct_system.specs.declared.system.ExitStatus.{ExitStatus}
use Rattle.duct_system.specs.declared.system.Kind.TheVariants.{Other, OutOfMemory}
use Rattle.duct_system.specs.declared.system.Output.{Output}
use Rattle.duct_status.specs.Message.{IsMessage}
use Rattle.duct_status.specs.ShapeView as shape
use Rattle.duct_status.specs.ShapeView.{ShapeView}
use Rattle.duct_start.specs.Plan.{plan_of}
use Rattle.duct_start.specs.TreeView.{TreeView, around, command, pipe, unchecked}
use Rattle.system_small.specs.Told.{captured_if, exit_of}

-- where these numbers are that of one child, the status is that with which it exits
abbrev pub IsExitOf : List ℕ → ExitStatus → Type 0
IsExitOf numbers status = (number : ℕ) → numbers ≡ number ∷ [] → status ≡ exit_of number

-- the output of a run whose start added these entries: where it started one command, it has the
-- exit status of that child; a command alone returns none; an unchecked pipe of two commands has
-- the status of the right one; and it has the bytes that capture workers read, for each stream
-- that the plan captures
pub record IsRun {E H : Type 0} (tree : TreeView E H) (added : List EntryView) (output : Output)
    : Type 0 where
  pub status : IsExitOf (children_in added) output.status
  pub failing : (words : List (List ℕ)) → tree ≡ command words → ⊥
  pub winner : (left right : List (List ℕ))
      → tree ≡ around unchecked (pipe (command left) (command right))
      → (one other : ℕ) → children_in added ≡ one ∷ other ∷ [] → output.status ≡ exit_of other
  pub out : output.stdout.items ≡ captured_if (is_some (plan_of tree).pipes.out)
  pub err : output.stderr.items ≡ captured_if (is_some (plan_of tree).pipes.err)

-- where these numbers are that of one child, a checked failure has the message of a command with
-- these words that exits as it does
abbrev pub HasMessage : List (List ℕ) → List ℕ → Error → Type 0
HasMessage words numbers (error.Checked text) =
    (number : ℕ) → numbers ≡ number ∷ []
    → IsMessage words (exit_of number) (string_bytes (arc_value text))
HasMessage words numbers other = Unit {0}

-- the result of a wait for children of these numbers: where there is one, an output has its exit
-- status; and a command alone returns none, but the message of that status
pub record IsWait (tree : ShapeView) (numbers : List ℕ)
    (result : Result (Arc Output Global) Error) : Type 0 where
  pub status : IfOk result (λ output. IsExitOf numbers (arc_value output).status)
  pub failing : (words : List (List ℕ)) → tree ≡ shape.command words → OnOk result ⊥
  pub message : (words : List (List ℕ)) → tree ≡ shape.command words
      → IfErr result (HasMessage words numbers)

-- the error is the fault `OutOfMemory` or `Other`
abbrev pub IsUnnoted : Error → Type 0
IsUnnoted e =
    ∥ (e ≡ error.System (record { kind = OutOfMemory }))
    ⊎ (e ≡ error.System (record { kind = Other })) ∥₁

-- A tree of commands that have ended, and the ways to them.
use Rattle.std.specs.Prelude.{ℕ, ◌+◌, ◌⊎◌, Bool, true, false, List, Some, None, pos, slice_get}
use Rattle.std.proofs.Common.{inl, inr, Option}
use Rattle.duct_system.specs.declared.system.ExitStatus.{ExitStatus}
use Rattle.duct_system.specs.declared.system.ExitStatus.TheVariants.{Code}
use Rattle.duct_status.specs.declared.status.Word.{Word}
use Rattle.duct_status.specs.declared.status.Word.TheVariants as word
use Rattle.duct_status.specs.ShapeView as shape
use Rattle.duct_status.specs.ShapeView.{ShapeView, command_count}

-- a command with its words and its exit status, a pipe, or an unchecked tree
pub data Endings : Type 0 where
  ending : List (List ℕ) → ExitStatus → Endings
  pipe : Endings → Endings → Endings
  unchecked : Endings → Endings

-- a command of the tree, given by its way from the root
abbrev pub Way : Endings → Type 0
Way (ending texts status) = Unit {0}
Way (pipe l r) = Way l ⊎ Way r
Way (unchecked t) = Way t

-- the exit status of this command
abbrev pub status_at : (t : Endings) → Way t → ExitStatus
status_at (ending texts status) way = status
status_at (pipe l r) (inl way) = status_at l way
status_at (pipe l r) (inr way) = status_at r way
status_at (unchecked t) way = status_at t way

-- the words of this command
abbrev pub texts_at : (t : Endings) → Way t → List (List ℕ)
texts_at (ending texts status) way = texts
texts_at (pipe l r) (inl way) = texts_at l way
texts_at (pipe l r) (inr way) = texts_at r way
texts_at (unchecked t) way = texts_at t way

-- whether no unchecked wraps this command
abbrev pub is_checked : (t : Endings) → Way t → Bool
is_checked (ending texts status) way = true
is_checked (pipe l r) (inl way) = is_checked l way
is_checked (pipe l r) (inr way) = is_checked r way
is_checked (unchecked t) way = false

-- the exit status in a command's report; a command that has not ended counts as a success
abbrev pub status_of : Option Word → ExitStatus
status_of (Some (word.Ended status)) = status
status_of (Some word.Running) = Code (pos 0)
status_of (Some (word.Fault fault)) = Code (pos 0)
status_of None = Code (pos 0)

-- the tree of a shape whose commands, numbered from c, have these reports
abbrev pub endings_of : ShapeView → ℕ → List Word → Endings
endings_of (shape.command texts) c words = ending texts (status_of (slice_get words c))
endings_of (shape.pipe l r) c words =
    pipe (endings_of l c words) (endings_of r (c + command_count l) words)
endings_of (shape.input t) c words = endings_of t c words
endings_of (shape.unchecked t) c words = unchecked (endings_of t c words)

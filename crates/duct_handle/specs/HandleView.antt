-- A handle and a token of it as contracts see them.
use Rattle.std.specs.Prelude.{ℕ, List, string_bytes, Option}
use Rattle.duct_status.specs.declared.status.Shape.{Shape}
use Rattle.duct_running.specs.NumbersView.{NumbersView}
use Rattle.duct_handle.specs.declared.published.Answer.{Answer}
use Rattle.std.specs.Arc.{arc_value}
use Rattle.duct_status.specs.ReplyView.{ReplyView, answered, failed}
use Rattle.duct_handle.specs.declared.published.Answer.TheVariants as answer

-- the shape, the numbers and the process ids that a handle keeps outside its lock, and the name of
-- the cell of its answer
pub record HandleView : Type 0 where
  pub shape : Shape
  pub numbers : NumbersView
  pub ids : List ℕ
  pub cell : ℕ

-- the content of a handle's cell: an answer, with the shape and the numbers of what gave it
pub record PublishedView : Type 0 where
  pub shape : Shape
  pub numbers : NumbersView
  pub answer : Option Answer

-- the name of the cell that a token belongs to, and the cell's content once the token knows it
pub record SeenView : Type 0 where
  pub cell : ℕ
  pub known : Option PublishedView

-- the reply of a core that gives this answer
abbrev pub answer_view : Answer → ReplyView
answer_view (answer.Output output) =
    answered (arc_value output).status (arc_value output).stdout.items
    (arc_value output).stderr.items
answer_view (answer.Failed text) = failed (string_bytes (arc_value text))

-- What was concluded from the results of children and workers.
use Rattle.std.specs.Prelude.{ℕ, ◌≡◌, ◌⊎◌, List, Err, map, option_map, Option}
use Rattle.duct_system.specs.Child.{Answer, ChildView}
use Rattle.duct_system.specs.Job.{JobView}
use Rattle.duct_system.specs.declared.error.Error.TheVariants as error
use Rattle.duct_system.specs.declared.system.Kind.TheVariants.{Other}
use Rattle.duct_system.specs.declared.system.Said.{Said}
use Rattle.duct_status.specs.Outcome.{Concludes}
use Rattle.duct_status.specs.ReplyView.{ReplyView}
use Rattle.duct_status.specs.ShapeView.{ShapeView, shape_view}
use Rattle.duct_start.specs.Running.{RunningView}
use Rattle.duct_system.specs.SystemViews.{SystemViews}
use Rattle.duct_running.specs.NumbersView.{NumbersView, numbers_of}
use Rattle.duct_running.specs.Polled.{Gives, Polled}
use Rattle.duct_running.specs.Stored.{Bytes, stored_latest}
use Rattle.duct_running.specs.Allowed.{AnswersAllowed}

-- there are children and workers of these numbers, each stores results that one of its number may
-- return, and the reply is the outcome of these results in a tree of this shape
pub record Concluded (answer : ℕ → Answer → Type 0) (feed : ℕ → Said (Unit {0}) → Type 0)
    (drain : ℕ → Said Bytes → Type 0) (shape : ShapeView) (numbers : NumbersView)
    (reply : ReplyView) : Type 0 where
  pub children : List ChildView
  pub feeds : List (JobView (Unit {0}))
  pub output : Option (JobView Bytes)
  pub error : Option (JobView Bytes)
  pub children_are : map (λ c. c.number) children ≡ numbers.children
  pub feeds_are : map (λ f. f.number) feeds ≡ numbers.feeds
  pub output_is : option_map (λ d. d.number) output ≡ numbers.output
  pub error_is : option_map (λ d. d.number) error ≡ numbers.error
  pub told : ∥ AnswersAllowed answer feed drain children feeds output error ∥₁
  pub concludes : Concludes shape (stored_latest children feeds output error) reply

-- some children and workers of these numbers store results that they may return, and the reply is
-- the outcome of these results in a tree of this shape
abbrev pub WasConcluded : (ℕ → Answer → Type 0) → (ℕ → Said (Unit {0}) → Type 0)
    → (ℕ → Said Bytes → Type 0) → ShapeView → NumbersView → ReplyView → Type 0
WasConcluded answer feed drain shape numbers reply =
    ∥ Concluded answer feed drain shape numbers reply ∥₁

-- a poll returned what was concluded, or `Error::Memory`
abbrev pub IsConcludedPoll : (ℕ → Answer → Type 0) → (ℕ → Said (Unit {0}) → Type 0)
    → (ℕ → Said Bytes → Type 0) → ShapeView → NumbersView → Polled → Type 0
IsConcludedPoll answer feed drain shape numbers polled =
    ((reply : ReplyView) × WasConcluded answer feed drain shape numbers reply
    × Gives reply polled)
    ⊎ (polled ≡ Err error.Memory)

module _ {S E C F D : Type 0} (views : SystemViews S E C F D (Unit {0}) Bytes) where
  -- the reply was concluded from what the children and workers of these numbers may return
  abbrev pub IsConcluded : ShapeView → NumbersView → ReplyView → Type 0
  IsConcluded shape numbers reply =
      WasConcluded views.may_answer views.feed_says views.drain_says shape numbers reply

  -- a poll of a running expression returned what was concluded, or `Error::Memory`
  abbrev pub ReturnsConclusion : RunningView C F D → Polled → Type 0
  ReturnsConclusion running polled =
      IsConcludedPoll views.may_answer views.feed_says views.drain_says (shape_view running.shape)
      (numbers_of views running) polled

  -- a poll returned what was concluded, or `Error::Memory`, or the error `Other` because the shape
  -- or the numbers differ
  abbrev pub IsAnswer : ShapeView → NumbersView → Polled → Type 0
  IsAnswer shape numbers polled =
      IsConcludedPoll views.may_answer views.feed_says views.drain_says shape numbers polled
      ⊎ (polled ≡ Err (error.System (record { kind = Other })))

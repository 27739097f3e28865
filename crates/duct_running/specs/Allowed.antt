-- Each result that a child or a worker stores is one that a child or a worker of its number may
-- return.
use Rattle.std.specs.Prelude.{ℕ, ◌⊎◌, ◌++◌, List, All, Contains, IfSome, map, Ok, Err, Some, None, option_map, option_to_list, Option}
use Rattle.std.specs.List.{AllZip}
use Rattle.duct_system.specs.Child.{Answer, ChildView}
use Rattle.duct_system.specs.Job.{JobView}
use Rattle.duct_system.specs.declared.system.Said.{Said}
use Rattle.duct_system.specs.declared.system.Said.TheVariants as said
use Rattle.duct_start.specs.Running.{RunningView}
use Rattle.duct_system.specs.SystemViews.{SystemViews}
use Rattle.duct_running.specs.Polled.{WhileRuns}
use Rattle.duct_running.specs.NumbersView.{NumbersView}
use Rattle.duct_running.specs.Stored.{Bytes, stored_in}
use Rattle.duct_status.specs.declared.status.Word.{Word}
use Rattle.duct_status.specs.declared.status.Word.TheVariants as word

-- a child of this number may return the result of the last poll, and the ending
pub record ChildAnswersAllowed (may : ℕ → Answer → Type 0) (child : ChildView) : Type 0 where
  pub answered : IfSome child.last (λ answer. may child.number answer)
  pub ended : IfSome child.ending (λ status. may child.number (Ok (Some status)))

-- a worker of this number may return the result or the fault that it keeps
abbrev pub WorkerResultAllowed : {T : Type 0} → (ℕ → Said T → Type 0) → JobView T → Type 0
WorkerResultAllowed may job = WhileRuns job.kept (Unit {0}) (may job.number job.kept)

-- the same of all children and workers
pub record AnswersAllowed (answer : ℕ → Answer → Type 0) (feed : ℕ → Said (Unit {0}) → Type 0)
    (drain : ℕ → Said Bytes → Type 0) (children : List ChildView)
    (feeds : List (JobView (Unit {0}))) (output error : Option (JobView Bytes)) : Type 0 where
  pub children_told : All (ChildAnswersAllowed answer) children
  pub feeds_told : All (WorkerResultAllowed feed) feeds
  pub output_told : IfSome output (WorkerResultAllowed drain)
  pub error_told : IfSome error (WorkerResultAllowed drain)

-- one of these numbers may return this
abbrev pub SomeSays : {A : Type 0} → (ℕ → A → Type 0) → A → List ℕ → Type 0
SomeSays may answer numbers = (number : ℕ) × Contains numbers number × may number answer

module _ {S E C F D : Type 0} (views : SystemViews S E C F D (Unit {0}) Bytes) where
  -- each result that a running expression stores is one that may be returned
  abbrev pub StoresAllowed : RunningView C F D → Type 0
  StoresAllowed running =
      AnswersAllowed views.may_answer views.feed_says views.drain_says
      (map views.child running.children) (map views.feed running.feeds)
      (option_map views.drain running.output) (option_map views.drain running.error)

  -- a child of this number may report this, as it may that it runs before its first poll
  abbrev pub MayReport : ℕ → Word → Type 0
  MayReport number (word.Ended status) = views.may_answer number (Ok (Some status))
  MayReport number (word.Fault fault) = views.may_answer number (Err fault)
  MayReport number word.Running = Unit {0}

  -- children of these numbers may have reported these, each its own
  abbrev pub HaveReported : List ℕ → List Word → Type 0
  HaveReported numbers words = ∥ AllZip MayReport numbers words ∥₁

  -- a child stores that it runs, as it does before its first poll
  abbrev pub OneIsRunning : RunningView C F D → Type 0
  OneIsRunning running =
      Contains (stored_in views.child views.feed views.drain running).commands word.Running

  -- a child, an input worker or a capture worker of these numbers may return that it runs
  abbrev pub OneRuns : NumbersView → Type 0
  OneRuns numbers =
      SomeSays views.may_answer (Ok None) numbers.children
      ⊎ SomeSays views.feed_says said.Running numbers.feeds
      ⊎ SomeSays views.drain_says said.Running
      (option_to_list numbers.output ++ option_to_list numbers.error)

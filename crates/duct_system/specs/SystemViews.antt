-- What contracts read of a system and its handles.
use Rattle.std.specs.Prelude.{ℕ, Bool}
use Rattle.duct_system.specs.Child.{Answer, ChildView, Obeyed}
use Rattle.duct_system.specs.Job.{JobView}
use Rattle.duct_system.specs.Journal.{JournalView}
use Rattle.duct_system.specs.declared.system.Order.{Order}
use Rattle.duct_system.specs.declared.system.Said.{Said}

-- the members of a system's traits that contracts read: the journal, the number of an end, the
-- view of a child and what it may return from a poll and from an order, and the view of a worker,
-- what it may return from a poll, and how it returns its result again
pub record SystemViews (S E C F D V W : Type 0) : Type 1 where
  pub journal : S → JournalView
  pub number_of : E → ℕ
  pub child : C → ChildView
  pub may_answer : ℕ → Answer → Type 0
  pub may_obey : ℕ → Order → Bool → Obeyed → Type 0
  pub feed : F → JobView V
  pub feed_says : ℕ → Said V → Type 0
  pub feed_same : V → V → Type 0
  pub feed_refusable : Type 0
  pub drain : D → JobView W
  pub drain_says : ℕ → Said W → Type 0
  pub drain_same : W → W → Type 0
  pub drain_refusable : Type 0

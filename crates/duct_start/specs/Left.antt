-- How a start changes the pool that it borrows.
use Rattle.std.specs.Prelude.{ℕ, ◌+◌, ◌<◌, ◌^◌, ◌≡◌, List, ◌++◌, All, length, map, Ok, None}
use Rattle.duct_system.specs.Child.{Answer, ChildView, PollsChild, IsUnasked}
use Rattle.duct_system.specs.EntryView.{EntryView}
use Rattle.duct_base.specs.Pool.{PoolView, Sieves, counted}
use Rattle.duct_system.specs.Started.{children_in}

-- a child that a pool keeps over some sweeps: its number, its process and its orders are unchanged
pub record StaysInPool (before after : ChildView) : Type 0 where
  pub number_is : after.number ≡ before.number
  pub process_is : after.process ≡ before.process
  pub orders_are : after.orders ≡ before.orders

-- the pool keeps some of its old children, in order, and after them those of the given children
-- that were still running when they were polled once; each other child was counted as reaped or
-- lost, by a result that its poll may return
pub record Leaves (may : ℕ → Answer → Type 0) (given : List ChildView)
    (before after : PoolView ChildView) : Type 0 where
  pub old : List ChildView
  pub new : List ChildView
  pub reaped : ℕ
  pub lost : ℕ
  pub reaped_new : ℕ
  pub lost_new : ℕ
  pub children_are : after.children ≡ old ++ new
  pub old_are : Sieves (λ child. may child.number) StaysInPool before.children old reaped lost
  pub new_are : Sieves (λ child. may child.number)
      (λ child kept. PollsChild may child (Ok None) kept) given new reaped_new lost_new
  pub given_is : after.given ≡ counted before.given (length given)
  pub reaped_is : after.reaped ≡ counted before.reaped (reaped + reaped_new)
  pub lost_is : after.lost ≡ counted before.lost (lost + lost_new)

-- a pool with the views of its children
abbrev pub pool_view : {C : Type 0} → (C → ChildView) → PoolView C → PoolView ChildView
pool_view view pool =
    record {
      children = map view pool.children;
      given = pool.given;
      reaped = pool.reaped;
      lost = pool.lost;
    }

-- the pool takes these children in: each is counted, and the old children that are left stay in
-- front, in order. It keeps or counts each of them if its list has room for all, below the bound of
-- the standard library's lists
pub record TakesIn (may : ℕ → Answer → Type 0) (given : List ChildView)
    (before after : PoolView ChildView) : Type 0 where
  pub old : List ChildView
  pub more : List ChildView
  pub reaped : ℕ
  pub lost : ℕ
  pub children_are : after.children ≡ old ++ more
  pub old_are : Sieves (λ child. may child.number) StaysInPool before.children old reaped lost
  pub given_is : after.given ≡ counted before.given (length given)
  pub all : length before.children + length given < 2 ^ 63 → Leaves may given before after

-- a failed start: the pool takes in the children that the start had started, in order; none of them
-- had been polled or given an order
abbrev pub LeavesStarted : {C : Type 0} → (ℕ → Answer → Type 0) → (C → ChildView) → List EntryView
    → PoolView C → PoolView C → Type 0
LeavesStarted may view added before after =
    (started : List ChildView) × (map (λ child. child.number) started ≡ children_in added)
    × All IsUnasked started
    × TakesIn may started (pool_view view before) (pool_view view after)

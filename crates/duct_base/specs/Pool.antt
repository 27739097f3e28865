-- What contracts see of a pool of abandoned children, and how a sweep and further children change
-- it.
use Rattle.std.specs.Prelude.{ℕ, zero, suc, ◌+◌, ◌-◌, ◌^◌, ◌<◌, ◌≡◌, ◌⊎◌, min, List, [], ◌∷◌, ◌++◌, flat_map, length, Ok, Err, Some, None, option_to_list, Option}
use Rattle.duct_system.specs.Child.{Answer, ChildView, PollsChild}
use Rattle.duct_system.specs.declared.system.ExitStatus.{ExitStatus}
use Rattle.duct_system.specs.declared.system.Fault.{Fault}

-- the children that it keeps, in order, and how many were ever given to it, reaped, and lost
pub record PoolView (C : Type 0) : Type 0 where
  pub children : List C
  pub given : ℕ
  pub reaped : ℕ
  pub lost : ℕ

-- the children in these nodes
abbrev pub in_nodes : {C : Type 0} → List (Option C) → List C
in_nodes nodes = flat_map option_to_list nodes

-- the greatest count
abbrev pub greatest : ℕ
greatest = 2 ^ 64 - 1

-- a count plus this many more, at most the greatest count
abbrev pub counted : ℕ → ℕ → ℕ
counted count zero = count
counted count (suc more) = min (count + suc more) greatest

-- each child that was given to a pool is kept, or was reaped, or was lost, while the count of given
-- children is below the greatest count
abbrev pub AddsUp : {C : Type 0} → PoolView C → Type 0
AddsUp pool = pool.given < greatest → pool.given ≡ length pool.children + pool.reaped + pool.lost

-- some children, polled once each, with a result that each may return: those that are left, as they
-- are kept, and how many were reaped and how many were lost
abbrev pub Sieves : {A B : Type 0} → (A → Answer → Type 0) → (A → B → Type 0) → List A → List B → ℕ
    → ℕ → Type 0
Sieves may keeps [] left reaped lost = (left ≡ []) × (reaped ≡ 0) × (lost ≡ 0)
Sieves {A} {B} may keeps (child ∷ children) left reaped lost =
    ((kept : B) × (rest : List B) × keeps child kept × (left ≡ kept ∷ rest)
    × Sieves may keeps children rest reaped lost)
    ⊎ ((status : ExitStatus) × (fewer : ℕ) × may child (Ok (Some status)) × (reaped ≡ fewer + 1)
    × Sieves may keeps children left fewer lost)
    ⊎ ((fault : Fault) × (fewer : ℕ) × may child (Err fault) × (lost ≡ fewer + 1)
    × Sieves may keeps children left reaped fewer)

-- these children were polled once each, where the pool keeps these others and was given this many:
-- those that run come after the others, in order, and nothing else of them has changed; each other
-- one was counted as reaped or lost
pub record PollsAll {C : Type 0} (may : ℕ → Answer → Type 0) (view : C → ChildView)
    (polled others : List C) (given : ℕ) (before after : PoolView C) : Type 0 where
  pub kept : List C
  pub reaped : ℕ
  pub lost : ℕ
  pub asked : Sieves (λ child. may (view child).number)
      (λ child kept. PollsChild may (view child) (Ok None) (view kept)) polled kept reaped lost
  pub children_are : after.children ≡ others ++ kept
  pub given_is : after.given ≡ counted before.given given
  pub reaped_is : after.reaped ≡ counted before.reaped reaped
  pub lost_is : after.lost ≡ counted before.lost lost

-- these children were given to a pool: each is counted, its old children stay in front, and all are
-- polled and kept or counted if the list of the pool has room for all of them
pub record IsGiven {C : Type 0} (may : ℕ → Answer → Type 0) (view : C → ChildView)
    (children : List C) (before after : PoolView C) : Type 0 where
  pub counts : after.given ≡ counted before.given (length children)
  pub stays : (more : List C) × (after.children ≡ before.children ++ more)
  pub takes : length before.children + length children < 2 ^ 63
      → PollsAll may view children before.children (length children) before after

-- as many children as this were lost before they could be given
abbrev pub Loses : {C : Type 0} → ℕ → PoolView C → PoolView C → Type 0
Loses count before after = after ≡ record before {
  given = counted before.given count;
  lost = counted before.lost count;
}

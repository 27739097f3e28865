-- What ran until it ended: children and workers that are there, and what they store.
use Rattle.std.specs.Prelude.{◌≡◌, ◌⊎◌, Err, List, length, map}
use Rattle.duct_base.specs.Pool.{Loses, PoolView}
use Rattle.duct_system.specs.declared.error.Error.{Error}
use Rattle.duct_system.specs.declared.error.Error.TheVariants as error
use Rattle.duct_system.specs.declared.system.Kind.TheVariants.{Other}
use Rattle.duct_status.specs.Outcome.{Concludes}
use Rattle.duct_status.specs.ReplyView.{ReplyView}
use Rattle.duct_status.specs.ShapeView.{shape_view}
use Rattle.duct_start.specs.Running.{RunningView}
use Rattle.duct_run.specs.Requested.{PoolGets}
use Rattle.duct_system.specs.SystemViews.{SystemViews}
use Rattle.duct_running.specs.Allowed.{StoresAllowed}
use Rattle.duct_running.specs.Polled.{ReturnsOutcome, StaysSame}
use Rattle.duct_running.specs.Stored.{Bytes, stored_in}
use Rattle.duct_running.specs.NumbersView.{NumbersView}

module _ {S E C F D : Type 0} (views : SystemViews S E C F D (Unit {0}) Bytes) where
  -- this reply is the outcome of what the children and workers store, and each result that they
  -- store is one that may be returned
  pub record StoresReply (waited : RunningView C F D) (reply : ReplyView) : Type 0 where
    pub concludes : Concludes (shape_view waited.shape)
        (stored_in views.child views.feed views.drain waited) reply
    pub allowed : ∥ StoresAllowed views waited ∥₁

  -- this error is the outcome of what they store, or an allocation failed; and the same
  pub record StoresError (waited : RunningView C F D) (e : Error) : Type 0 where
    pub outcome : ReturnsOutcome views waited (Err e) ⊎ (e ≡ error.Memory)
    pub allowed : ∥ StoresAllowed views waited ∥₁

  -- the same children and workers, of which none was given an order since, and of which this holds
  abbrev pub RanUntil : RunningView C F D → (RunningView C F D → Type 0) → Type 0
  RanUntil running holds =
      (waited : RunningView C F D) × StaysSame views running waited × holds waited

  -- this holds of a wait for what ran, and the pool was given its children
  abbrev pub RanUntilGiven : RunningView C F D → (RunningView C F D → Type 0) → PoolView C
      → PoolView C → Type 0
  RanUntilGiven running holds before after =
      RanUntil running (λ waited. holds waited × PoolGets views waited.children before after)

-- the error of a call that finds another shape or other numbers under a handle's lock than it keeps
abbrev pub IsMismatch : Error → Type 0
IsMismatch e = e ≡ error.System (record { kind = Other })

module _ {S E C F D V W : Type 0} (views : SystemViews S E C F D V W) where
  -- children were given to the pool: those of these numbers; or, only if this holds, others, and as
  -- many as these were lost
  abbrev pub AreGiven : NumbersView → Type 0 → PoolView C → PoolView C → Type 0
  AreGiven numbers unless before after =
      (children : List C) × (given : PoolView C) × PoolGets views children before given
      × (((map (λ c. c.number) (map views.child children) ≡ numbers.children) × (after ≡ given))
      ⊎ (unless × Loses (length numbers.children) given after))

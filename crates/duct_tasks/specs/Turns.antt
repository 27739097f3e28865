-- Orders to what runs, and attempts.
use Rattle.std.specs.Prelude.{ℕ, ◌+◌, ◌≡◌, ◌⊎◌, Bool, true, false, List, [], length, map, All, Ok, Err, Some, None, ◌<◌, IfErr, Option, Result, is_some}
use Rattle.std.specs.List.{FoldsTo}
use Rattle.std.specs.Borrow.{MutBor}
use Rattle.std.specs.Fn.{Shared}
use Rattle.duct_status.specs.ShapeView.{ShapeView, shape_view}
use Rattle.duct_start.specs.Running.{RunningView}
use Rattle.duct_system.specs.SystemViews.{SystemViews}
use Rattle.duct_running.specs.Stored.{Bytes}
use Rattle.duct_tasks.specs.Groups.{Tries, leaders}
use Rattle.duct_tasks.specs.Until.{AreSignalled, End}
use Rattle.duct_tasks.specs.declared.many.AtFailure.{AtFailure}
use Rattle.duct_tasks.specs.declared.many.AtFailure.TheVariants.{GoOn, Wait, Stop}

-- none has failed, or the others go on
abbrev pub GoesOn : AtFailure → Bool → Type 0
GoesOn GoOn failed = Unit {0}
GoesOn Wait failed = failed ≡ false
GoesOn Stop failed = failed ≡ false

-- where the groups of the commands of a task were tried: its shape, the ids of its processes, and
-- how they were tried
pub record TaskTries : Type 0 where
  pub shape : ShapeView
  pub processes : List ℕ
  pub tries : Tries

-- whether the children of what ended like this, or was killed, are given to a pool
abbrev pub gives : Option End → Bool
gives (Some (Ok output)) = false
gives (Some (Err e)) = true
gives None = true

module _ {S E C F D : Type 0} (views : SystemViews S E C F D (Unit {0}) Bytes) where
  -- the children of what runs were sent signal 15 alone, or their groups were, where its commands
  -- lead some
  pub record WereSignalled (running : RunningView C F D) : Type 0 where
    pub tries : Tries
    pub led : map (λ t. is_some t) tries ≡ leaders (shape_view running.shape)
    pub signalled : AreSignalled views tries running

  -- the children of what runs were given no order; or they were signalled
  abbrev pub HasOrders : Bool → RunningView C F D → Type 0
  HasOrders false running = All (λ c. c.orders ≡ []) (map views.child running.children)
  HasOrders true running = WereSignalled running

-- a call of f through a `&`, at a `&mut` to each of two values, may return r and leave two others
pub record FnReturnsAtPairMut {F A B R : Type 0}
    (g : Shared F (MutBor A × (MutBor B × Unit {0})) (R × (MutBor A × (MutBor B × Unit {0}))))
    (f : F) (before : A × B) (r : R) (after : A × B) : Type 0 where
  pub first : MutBor A
  pub second : MutBor B
  pub shows : (first.now ≡ before.0) × (second.now ≡ before.1)
  pub left : MutBor A × (MutBor B × Unit {0})
  pub met : g.post f (first, (second, tt)) (r, left)
  pub leaves : (left.0.now ≡ after.0) × (left.1.0.now ≡ after.1)

module _ {P T E : Type 0} (attempt : P → Result T E → P → Type 0) (tells : E → Bool → Type 0) where
  -- an attempt failed with this error, which was called transient
  abbrev pub FailsFor : P → E → P → Type 0
  FailsFor before e after = attempt before (Err e) after × tells e true

  -- there were at most so many attempts, each from where the one before had ended; all but the last
  -- failed with an error that was called transient, and the result is that of the last, which
  -- either is no error, or one that was not called transient, or was the last that was allowed. A
  -- pause was made after each of the others
  pub record Attempts (rested : ℕ → Type 0) (most : ℕ) (before : P) (result : Result T E)
      (after : P) : Type 0 where
    pub errors : List E
    pub between : P
    pub few : length errors < most
    pub failed : FoldsTo FailsFor before errors between
    pub paused : (k : ℕ) → k < length errors → rested (k + 1)
    pub last : attempt between result after
    pub over : IfErr result (λ e. tells e false ⊎ (length errors + 1 ≡ most))

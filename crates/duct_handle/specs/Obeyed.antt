-- An order to all commands of a handle, and what it returns.
use Rattle.std.specs.Prelude.{ℕ, true, false, ◌≡◌, ◌⊎◌, List, Ok, Err, Some, Result}
use Rattle.std.specs.List.{AllZip}
use Rattle.duct_system.specs.Child.{Obeyed}
use Rattle.duct_system.specs.declared.error.Error.{Error}
use Rattle.duct_system.specs.declared.error.Error.TheVariants as error
use Rattle.duct_system.specs.declared.system.ExitStatus.{ExitStatus}
use Rattle.duct_system.specs.declared.system.Kind.TheVariants.{Other, OutOfMemory}
use Rattle.duct_system.specs.declared.system.Order.{Order}
use Rattle.duct_start.specs.Running.{RunningView}
use Rattle.duct_system.specs.SystemViews.{SystemViews}
use Rattle.duct_running.specs.Ordered.{ChildrenOrdered, OrderAnswers, leftmost}

module _ {S E C F D V W : Type 0} (views : SystemViews S E C F D V W) where
  -- what a command of this number returns for an order: Ok if a poll of it may return an exit
  -- status; what it may return for an order that was noted; or OutOfMemory if the allocation of the
  -- note failed and it may return that
  abbrev pub CommandAnswers : Order → ℕ → Obeyed → Type 0
  CommandAnswers order number heard =
      ((status : ExitStatus) × views.may_answer number (Ok (Some status)) × (heard ≡ Ok tt))
      ⊎ views.may_obey number order true heard
      ⊎ (views.may_obey number order false heard × (heard ≡ Err (record { kind = OutOfMemory })))

  -- each of these numbers returns a result, and the result of the order is the leftmost fault among
  -- them
  abbrev pub AllObey : Order → List ℕ → Result (Unit {0}) Error → Type 0
  AllObey order numbers result =
      (answers : List Obeyed) × AllZip (CommandAnswers order) numbers answers
      × OrderAnswers (leftmost answers) result

  -- the same, or `Other`, which means that what the lock holds differs from these numbers
  abbrev pub IsObeyed : Order → List ℕ → Result (Unit {0}) Error → Type 0
  IsObeyed order numbers result =
      (result ≡ Err (error.System (record { kind = Other }))) ⊎ ∥ AllObey order numbers result ∥₁

  -- each child that had not ended or leads a group was given the order once, the result is the
  -- leftmost fault, and the shape and the workers are as before
  pub record OrderedOnce (order : Order) (before : RunningView C F D)
      (result : Result (Unit {0}) Error) (after : RunningView C F D) : Type 0 where
    pub shape : after.shape ≡ before.shape
    pub children : ChildrenOrdered views order before result after
    pub feeds : after.feeds ≡ before.feeds
    pub output : after.output ≡ before.output
    pub error : after.error ≡ before.error

  -- the same, or the result is `Other` and all is as before
  abbrev pub IsOrderedOnce : Order → RunningView C F D → Result (Unit {0}) Error
      → RunningView C F D → Type 0
  IsOrderedOnce order before result after =
      ((result ≡ Err (error.System (record { kind = Other }))) × (after ≡ before))
      ⊎ OrderedOnce order before result after

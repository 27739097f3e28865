-- What is returned of a read that was waited for.
use Rattle.std.proofs.Common.{◌≡◌, inl, inr, List, ℕ, subst, Ok, Err, Some, IfSome, IfErr, IsUtf8, Option, Result, String, Global}
use Rattle.std.specs.declared.io.ErrorKind.{ErrorKind}
use Rattle.duct_handle.proofs.Common.{Arc, PoolView, Error, Output, ReplyView, answered, failed, faulted, no_memory, noted, pending, unknown, shape_view, RunningView, SystemViews, StoresAllowed, Gives, ReturnsOutcome, StaysSame, Bytes, stored_in, EndsWell, FailsToRead, StopsReading, trimmed}
use Rattle.duct_system.specs.declared.error.Error.TheVariants as error
use Rattle.duct_status.specs.Outcome.{Concludes}
use Rattle.duct_run.specs.Requested.{PoolGets}

module _ {S E C F D : Type 0} (views : SystemViews S E C F D (Unit {0}) Bytes)
    (before after : RunningView C F D) where
  module _ (stays : StaysSame views before after) (allowed : ∥ StoresAllowed views after ∥₁)
      (output : Arc Output Global) (outcome : ReturnsOutcome views after (Ok (Some output))) where
    ends_by : (reply : ReplyView)
        → Concludes (shape_view after.shape) (stored_in views.child views.feed views.drain after) reply
        → Gives reply (Ok (Some output)) → EndsWell views after
    ends_by noted concludes gives = absurd gives
    ends_by unknown concludes gives = absurd gives
    ends_by pending concludes gives = absurd (cc)
    ends_by (faulted fault) concludes gives = absurd (cc)
    ends_by (answered status out err) concludes gives = (status, out, err, record { concludes = concludes; allowed = allowed })
    ends_by (failed text) concludes gives = absurd gives
    ends_by no_memory concludes gives = absurd (cc)

    ends_well : EndsWell views after
    ends_well = ends_by outcome.0 outcome.1 outcome.2

    module _ (bytes : List ℕ) (left : Option (List ℕ)) (told : IfSome left (λ all. bytes ≡ all)) where
      -- bytes that are no text
      pub no_text : (result : Result (String Global) Error) (stopped : Option ErrorKind)
          → IfErr result (λ e. (e ≡ error.NotUtf8) × (IsUtf8 (trimmed bytes) → ⊥))
          → IfErr result (λ e. StopsReading views stopped left e before after)
      no_text (Ok text) stopped is = tt
      no_text (Err e) stopped is = inr (stays, inr (is.0, (bytes, told, is.1), ends_well))

  -- the pool was given what was read in vain
  pub fails_to_read : (stopped : Option ErrorKind) (left : Option (List ℕ)) (e : Error)
      (old new : PoolView C) → StopsReading views stopped left e before after
      → PoolGets views after.children old new → FailsToRead views before left e old new
  fails_to_read stopped left e old new (inl (fault, same)) gets =
      inl ((fault.0, fault.2), subst (λ (r : RunningView C F D). PoolGets views r.children old new) same gets)
  fails_to_read stopped left e old new (inr (stays, none)) gets = inr (after, stays, (none, gets))

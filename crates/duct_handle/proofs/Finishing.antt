-- What a wait returns, by what its children and workers store.
use Rattle.std.proofs.Common.{◌≡◌, ◌⊎◌, inl, inr, map, refl, subst, Ok, Err, Some, option_map, IfErr, IfOk, IsOkAnd, OnErr, Result, Global}
use Rattle.duct_handle.proofs.Common.{arc_value, Arc, PoolView, Error, Output, ReplyView, answered, failed, faulted, no_memory, noted, pending, unknown, shape_view, RunningView, SystemViews, StoresAllowed, IsConcluded, numbers_of, Gives, IsOutput, ReturnsOutcome, StaysSame, Bytes, stored_in, at_end}
use Rattle.duct_system.specs.declared.error.Error.TheVariants as error
use Rattle.duct_status.specs.Outcome.{Concludes}
use Rattle.duct_run.specs.Requested.{PoolGets}
use Rattle.duct_handle.specs.Finished.{RanUntil, RanUntilGiven, StoresError, StoresReply}

-- the reply that gives an output, of which this is a copy
answered_reply : (reply : ReplyView) (output : Arc Output Global) (own : Output)
    → Gives reply (Ok (Some output))
    → IsOutput (arc_value output).status (arc_value output).stdout.items (arc_value output).stderr.items own
    → reply ≡ answered own.status own.stdout.items own.stderr.items
answered_reply noted output own gives is = absurd gives
answered_reply unknown output own gives is = absurd gives
answered_reply pending output own gives is = absurd (cc)
answered_reply (faulted fault) output own gives is = absurd (cc)
answered_reply (answered status out err) output own gives is = cc
answered_reply (failed text) output own gives is = absurd gives
answered_reply no_memory output own gives is = absurd (cc)

-- what is stored was concluded from what children and workers of these numbers may return
pub was_concluded : {S E C F D : Type 0} (views : SystemViews S E C F D (Unit {0}) Bytes)
    (waited : RunningView C F D) (reply : ReplyView) → StoresReply views waited reply
    → IsConcluded views (shape_view waited.shape) (numbers_of views waited) reply
was_concluded views waited reply stores = ∣ record {
  children = map views.child waited.children;
  feeds = map views.feed waited.feeds;
  output = option_map views.drain waited.output;
  error = option_map views.drain waited.error;
  children_are = refl;
  feeds_are = refl;
  output_is = refl;
  error_is = refl;
  told = stores.allowed;
  concludes = stores.concludes;
} ∣₁

module _ {S E C F D : Type 0} (views : SystemViews S E C F D (Unit {0}) Bytes)
    (before after : RunningView C F D) (stays : StaysSame views before after)
    (allowed : ∥ StoresAllowed views after ∥₁) where
  -- the copy of an output that was waited for
  pub finished : (waited : Result (Arc Output Global) Error) (result : Result Output Error)
      → ReturnsOutcome views after (at_end waited)
      → IfOk result (λ own. IsOkAnd waited (λ output. IsOutput (arc_value output).status
      (arc_value output).stdout.items (arc_value output).stderr.items own))
      → IfOk result (λ own. RanUntil views before (λ w. StoresReply views w
      (answered own.status own.stdout.items own.stderr.items)))
  finished waited (Err e) outcome is = tt
  finished (Err e) (Ok own) outcome is = absurd is
  finished (Ok output) (Ok own) outcome is = (
    after,
    stays,
    record {
      concludes = subst (λ reply. Concludes (shape_view after.shape) (stored_in views.child views.feed views.drain after) reply)
          (answered_reply outcome.0 output own outcome.2 is) outcome.1;
      allowed = allowed;
    },
  )

  error_outcome : (waited : Result (Arc Output Global) Error) (e : Error)
      → ReturnsOutcome views after (at_end waited) → (waited ≡ Err e) ⊎ (e ≡ error.Memory)
      → ReturnsOutcome views after (Err e) ⊎ (e ≡ error.Memory)
  error_outcome waited e outcome (inl is) = inl (subst (λ w. ReturnsOutcome views after (at_end w)) is outcome)
  error_outcome waited e outcome (inr memory) = inr memory

  -- an error of the wait, or of the copy
  pub stopped : (waited : Result (Arc Output Global) Error) (result : Result Output Error)
      (old new : PoolView C)
      → ReturnsOutcome views after (at_end waited)
      → IfErr result (λ e. (waited ≡ Err e) ⊎ (e ≡ error.Memory))
      → OnErr result (PoolGets views after.children old new)
      → IfErr result (λ e. RanUntilGiven views before (λ w. StoresError views w e) old new)
  stopped waited (Ok own) old new outcome is gets = tt
  stopped waited (Err e) old new outcome is gets =
      (after, stays, (record { outcome = error_outcome waited e outcome is; allowed = allowed }, gets))

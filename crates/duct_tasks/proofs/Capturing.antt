-- What a captured run returns, by what its children and workers store.
use Rattle.std.proofs.Common.{◌≡◌, ◌⊎◌, inl, inr, subst, Ok, Err, Some, IsOkAnd, Result, Global}
use Rattle.std.specs.Arc.{arc_value}
use Rattle.std.specs.declared.sync.Arc.{Arc}
use Rattle.duct_system.specs.SystemViews.{SystemViews}
use Rattle.duct_system.specs.declared.error.Error.{Error}
use Rattle.duct_system.specs.declared.error.Error.TheVariants as error
use Rattle.duct_system.specs.declared.system.Output.{Output}
use Rattle.duct_status.specs.Outcome.{Concludes}
use Rattle.duct_status.specs.ReplyView.{ReplyView, answered, failed, faulted, no_memory, noted, pending, unknown}
use Rattle.duct_status.specs.ShapeView.{shape_view}
use Rattle.duct_start.specs.Running.{RunningView}
use Rattle.duct_running.specs.Allowed.{StoresAllowed}
use Rattle.duct_running.specs.Polled.{Gives, IsOutput, ReturnsOutcome}
use Rattle.duct_running.specs.Stored.{Bytes, stored_in}
use Rattle.duct_handle.specs.Finished.{StoresError, StoresReply}
use Rattle.duct_handle.specs.Waited.{at_end}

-- the reply that gives an output, of which this is a copy
given_reply : (reply : ReplyView) (output : Arc Output Global) (own : Output)
    → Gives reply (Ok (Some output))
    → IsOutput (arc_value output).status (arc_value output).stdout.items (arc_value output).stderr.items own
    → reply ≡ answered own.status own.stdout.items own.stderr.items
given_reply noted output own gives is = absurd gives
given_reply unknown output own gives is = absurd gives
given_reply pending output own gives is = absurd (cc)
given_reply (faulted fault) output own gives is = absurd (cc)
given_reply (answered status out err) output own gives is = cc
given_reply (failed text) output own gives is = absurd gives
given_reply no_memory output own gives is = absurd (cc)

-- what was waited for stores the reply of the output that is returned
pub stores_reply : {S E C F D : Type 0} (views : SystemViews S E C F D (Unit {0}) Bytes)
    (after : RunningView C F D) → ∥ StoresAllowed views after ∥₁
    → (waited : Result (Arc Output Global) Error) (own : Output)
    → ReturnsOutcome views after (at_end waited)
    → IsOkAnd waited (λ output. IsOutput (arc_value output).status
    (arc_value output).stdout.items (arc_value output).stderr.items own)
    → StoresReply views after (answered own.status own.stdout.items own.stderr.items)
stores_reply views after allowed (Err e) own outcome is = absurd is
stores_reply views after allowed (Ok output) own outcome is = record {
  concludes = subst (λ reply. Concludes (shape_view after.shape) (stored_in views.child views.feed views.drain after) reply)
      (given_reply outcome.0 output own outcome.2 is) outcome.1;
  allowed = allowed;
}

-- and so does what fails with the error of the wait, or for want of memory
pub stores_error : {S E C F D : Type 0} (views : SystemViews S E C F D (Unit {0}) Bytes)
    (after : RunningView C F D) → ∥ StoresAllowed views after ∥₁
    → (waited : Result (Arc Output Global) Error) (e : Error)
    → ReturnsOutcome views after (at_end waited)
    → (waited ≡ Err e) ⊎ (e ≡ error.Memory) → StoresError views after e
stores_error views after allowed waited e outcome (inl is) = record {
  outcome = inl (subst (λ w. ReturnsOutcome views after (at_end w)) is outcome);
  allowed = allowed;
}
stores_error views after allowed waited e outcome (inr memory) =
    record { outcome = inr memory; allowed = allowed }

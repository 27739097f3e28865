-- What the failed request of a start says of its error.
use Rattle.std.proofs.Common.{◌≡◌, ℕ, refl, sym, ◌∙◌, ap, List, Some, None, is_some, if◌then◌else◌, inl, inr, option_and_then, Option}
use Rattle.std.proofs.lemmas.Option.{none-some}
use Rattle.duct_system.specs.EntryView.{EntryView}
use Rattle.duct_system.specs.Trace.{fault_of}
use Rattle.duct_system.specs.declared.error.Error.{Error}
use Rattle.duct_system.specs.declared.error.Error.TheVariants.{System, Checked, NotUtf8, Hook, HookEnd, Deadline, Memory}
use Rattle.duct_system.specs.declared.system.Fault.{Fault}
use Rattle.duct_start.specs.Causes.{IsCausedOrMemory, ReturnsLastFault, last_fault}
use Rattle.duct_start.specs.Chain.{Allows, Refuses}
use Rattle.duct_start.specs.Plan.{Plan}
use Rattle.duct_tasks.specs.FailedRequest.{Explains, failed_request, if_refused, last_asked}

module _ {E H : Type 0} (allows : Allows H) (refuses : Refuses H) (number_of : E → ℕ) (plan : Plan E H)
    (added : List EntryView) where
  unexplained : (e : Error) → last_fault added ≡ None → IsCausedOrMemory allows refuses number_of plan added e
      → Explains None e
  unexplained (System fault) none (inl memory) = memory
  unexplained (System fault) none (inr last) = absurd (none-some fault (sym none ∙ last))
  unexplained (Checked text) none cause = cause
  unexplained NotUtf8 none cause = cause
  unexplained (Hook fault) none cause = tt
  unexplained (HookEnd place) none cause = tt
  unexplained Deadline none cause = cause
  unexplained Memory none cause = tt

  of_fault : (entry : EntryView) (f : Option Fault) (e : Error)
      → fault_of entry ≡ f → last_fault added ≡ f → IsCausedOrMemory allows refuses number_of plan added e
      → ReturnsLastFault added e → Explains (if is_some f then Some entry else None) e
  of_fault entry (Some fault) e is last cause returns = (fault, is, returns fault last)
  of_fault entry None e is last cause returns = unexplained e last cause

  of_last : (last : Option EntryView) (e : Error) → last_asked added ≡ last
      → IsCausedOrMemory allows refuses number_of plan added e → ReturnsLastFault added e
      → Explains (option_and_then if_refused last) e
  of_last None e is cause returns = unexplained e (ap (λ (o : Option EntryView). option_and_then fault_of o) is) cause
  of_last (Some entry) e is cause returns =
      of_fault entry (fault_of entry) e refl (ap (λ (o : Option EntryView). option_and_then fault_of o) is) cause returns

  -- where the error of a start has a cause or is `Memory`, and its last fault is its error, its
  -- failed request explains the error
  pub explains : (e : Error) → IsCausedOrMemory allows refuses number_of plan added e
      → ReturnsLastFault added e → Explains (failed_request added) e
  explains e cause returns = of_last (last_asked added) e refl cause returns

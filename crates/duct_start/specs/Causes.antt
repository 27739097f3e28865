-- Why a start may fail.
use Rattle.std.specs.Prelude.{ℕ, ◌-◌, List, ◌≡◌, ◌⊎◌, length, filter, not, slice_get, Some, option_and_then, Option}
use Rattle.duct_system.specs.EntryView.{EntryView}
use Rattle.duct_system.specs.Trace.{trace, is_close, fault_of}
use Rattle.duct_system.specs.declared.error.Error.{Error}
use Rattle.duct_system.specs.declared.error.Error.TheVariants.{System, Hook, HookEnd, Memory}
use Rattle.duct_system.specs.declared.system.Fault.{Fault}
use Rattle.duct_system.specs.declared.system.Kind.TheVariants.{OutOfMemory}
use Rattle.duct_start.specs.Chain.{SpecWithOrigins, Allows, Refuses, HooksStop, hooks_by_origin}
use Rattle.duct_start.specs.Follows.{IsAskedAt}
use Rattle.duct_start.specs.Plan.{Plan}
use Rattle.duct_start.specs.Step.{Item, AskSpawn}

-- the entries that are not closes
abbrev pub asked_in : List EntryView → List EntryView
asked_in added = filter (λ entry. not (is_close entry)) added

-- the fault of the last entry that is not a close, if it has one
abbrev pub last_fault : List EntryView → Option Fault
last_fault added =
    option_and_then fault_of (slice_get (asked_in added) (length (asked_in added) - 1))

-- the item is a spawn, and the hooks of its command stop the start with this error
abbrev pub StoppedBy : {E H : Type 0} → Allows H → Refuses H → (E → ℕ) → List EntryView → ℕ
    → Option (Item E H) → Error → Type 0
StoppedBy allows refuses number_of entries place (Some (AskSpawn found words)) error =
    (before : SpecWithOrigins) × IsAskedAt entries number_of place found words before
    × HooksStop allows refuses (hooks_by_origin number_of found.hooks) before error
StoppedBy allows refuses number_of entries place other error = ⊥

-- the hooks of the command whose spawn is the next item of the plan stop the start with this error
abbrev pub StoppedNext : {E H : Type 0} → Allows H → Refuses H → (E → ℕ) → Plan E H → List EntryView
    → Error → Type 0
StoppedNext allows refuses number_of plan added error =
    let place = length (trace added) in
    StoppedBy allows refuses number_of (trace added) place (slice_get plan.items place) error

-- the error has a cause, or is `Memory`: a system's fault is an allocation failure or that of the
-- last entry that is not a close; a hook's error comes from the next command; the only other error
-- is `Memory`
abbrev pub IsCausedOrMemory : {E H : Type 0} → Allows H → Refuses H → (E → ℕ) → Plan E H
    → List EntryView → Error → Type 0
IsCausedOrMemory allows refuses number_of plan added (System fault) =
    (fault.kind ≡ OutOfMemory) ⊎ (last_fault added ≡ Some fault)
IsCausedOrMemory allows refuses number_of plan added (Hook fault) =
    StoppedNext allows refuses number_of plan added (Hook fault)
IsCausedOrMemory allows refuses number_of plan added (HookEnd place) =
    StoppedNext allows refuses number_of plan added (HookEnd place)
IsCausedOrMemory allows refuses number_of plan added Memory = Unit {0}
IsCausedOrMemory allows refuses number_of plan added other = ⊥

-- if the last entry that is not a close has a fault, the error is that fault and no other
abbrev pub ReturnsLastFault : List EntryView → Error → Type 0
ReturnsLastFault added error =
    (fault : Fault) → last_fault added ≡ Some fault → error ≡ System fault

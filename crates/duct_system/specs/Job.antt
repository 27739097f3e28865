-- What contracts see of a job, and how a poll changes it.
use Rattle.std.specs.Prelude.{ℕ, ◌≡◌, Vec}
use Rattle.std.specs.declared.alloc.Global.{Global}
use Rattle.std.specs.declared.sync.Arc.{Arc}
use Rattle.std.specs.Arc.{arc_value}
use Rattle.duct_system.specs.Child.{one_more}
use Rattle.duct_system.specs.declared.system.Said.{Said}
use Rattle.duct_system.specs.declared.system.Said.TheVariants as said

-- its number, how often it was polled (at most the greatest u64), and the first Done or Fault that
-- a poll returned, or Running before that
pub record JobView (T : Type 0) : Type 0 where
  pub number : ℕ
  pub polls : ℕ
  pub kept : Said T

-- what a job stores after a poll returned this: its first Done or Fault stays
abbrev pub kept_after : {T : Type 0} → Said T → Said T → Said T
kept_after said.Running heard = heard
kept_after (said.Done value) heard = said.Done value
kept_after (said.Fault fault) heard = said.Fault fault

-- a job that stores a Done returns it again, or Running where making one more owner of its result
-- may fail; a fault is returned again
abbrev pub SaysAgain : {T : Type 0} → (T → T → Type 0) → Type 0 → Said T → Said T → Type 0
SaysAgain same refusable said.Running heard = Unit {0}
SaysAgain same refusable (said.Done value) said.Running = refusable
SaysAgain same refusable (said.Done value) (said.Done again) = same value again
SaysAgain same refusable (said.Done value) (said.Fault fault) = ⊥
SaysAgain same refusable (said.Fault fault) heard = heard ≡ said.Fault fault

-- a job was polled: it may return this, it returns its first Done or Fault again if it has one, and
-- nothing else of it has changed
pub record PollsJob {T : Type 0} (may : ℕ → Said T → Type 0) (same : T → T → Type 0)
    (refusable : Type 0)
    (before : JobView T) (heard : Said T) (after : JobView T) : Type 0 where
  pub told : may before.number heard
  pub again : SaysAgain same refusable before.kept heard
  pub after_is : after ≡ record before
      { polls = one_more before.polls; kept = kept_after before.kept heard }

-- a job with this number that was never polled
abbrev pub unpolled_job : {T : Type 0} → ℕ → JobView T
unpolled_job number = record { number = number; polls = 0; kept = said.Running }

-- two owners that are the same by this relation hold the same bytes
abbrev pub MeansSameBytes : (Arc (Vec ℕ Global) Global → Arc (Vec ℕ Global) Global → Type 0)
    → Type 0
MeansSameBytes same =
    (one other : Arc (Vec ℕ Global) Global) → same one other
    → (arc_value other).items ≡ (arc_value one).items

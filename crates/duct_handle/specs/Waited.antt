-- What a wait returns, and what its token knows then.
use Rattle.std.specs.Prelude.{◌≡◌, ◌⊎◌, IfSome, IsSomeAnd, Ok, Err, Some, None, ◌+◌, Result}
use Rattle.std.specs.declared.alloc.Global.{Global}
use Rattle.std.specs.declared.sync.Arc.{Arc}
use Rattle.duct_system.specs.declared.error.Error.{Error}
use Rattle.duct_system.specs.declared.error.Error.TheVariants as error
use Rattle.duct_system.specs.declared.system.Kind.TheVariants.{Other}
use Rattle.duct_system.specs.declared.system.Output.{Output}
use Rattle.duct_status.specs.ShapeView.{shape_view}
use Rattle.duct_system.specs.SystemViews.{SystemViews}
use Rattle.duct_running.specs.Answered.{IsAnswer}
use Rattle.duct_running.specs.Polled.{Gives, Polled}
use Rattle.duct_running.specs.Stored.{Bytes}
use Rattle.duct_running.specs.Allowed.{OneRuns}
use Rattle.duct_handle.specs.HandleView.{answer_view, HandleView, PublishedView, SeenView}
use Rattle.std.specs.Duration.{as_nanos, FitsDuration}
use Rattle.std.specs.declared.time.Duration.{Duration}

-- what a token knows belongs to this handle, and gives this result
pub record IsOf (handle : HandleView) (polled : Polled) (known : PublishedView) : Type 0 where
  pub shape : shape_view known.shape ≡ shape_view handle.shape
  pub numbers : known.numbers ≡ handle.numbers
  pub gives : IsSomeAnd known.answer (λ ending. Gives (answer_view ending) polled)

-- the error is no checked failure
abbrev pub IsNoEnding : Error → Type 0
IsNoEnding (error.Checked text) = ⊥
IsNoEnding other = Unit {0}

-- no memory, or that what the lock holds differs from what the handle was made of
abbrev pub IsMemoryOrOther : Error → Type 0
IsMemoryOrOther e = (e ≡ error.Memory) ⊎ (e ≡ error.System (record { kind = Other }))

-- if the result is an output or a checked failure, the token knows it
abbrev pub KnowsIfEnded : HandleView → SeenView → Polled → Type 0
KnowsIfEnded handle seen (Ok None) = Unit {0}
KnowsIfEnded handle seen (Ok (Some output)) = IsSomeAnd seen.known (IsOf handle (Ok (Some output)))
KnowsIfEnded handle seen (Err (error.Checked text)) =
    IsSomeAnd seen.known (IsOf handle (Err (error.Checked text)))
KnowsIfEnded handle seen (Err other) = Unit {0}

-- a token that knows an answer of this handle returns it again, or fails with `Error::Memory` to
-- add one more owner
abbrev pub GivesAgain : HandleView → PublishedView → Polled → Type 0
GivesAgain handle known polled =
    shape_view known.shape ≡ shape_view handle.shape → known.numbers ≡ handle.numbers
    → IfSome known.answer
    (λ ending. Gives (answer_view ending) polled ⊎ (polled ≡ Err error.Memory))

-- the result of a wait that returns only at the end, in the form of a poll's result
abbrev pub at_end : Result (Arc Output Global) Error → Polled
at_end (Ok output) = Ok (Some output)
at_end (Err e) = Err e

module _ {S E C F D : Type 0} (views : SystemViews S E C F D (Unit {0}) Bytes) where
  -- the result is one for the handle's shape and numbers; while it is none, one of its numbers may
  -- say that it runs; the token knows an ending that was returned, and returns it again
  pub record Waited (handle : HandleView) (before after : SeenView) (polled : Polled)
      : Type 0 where
    pub cell : after.cell ≡ handle.cell
    pub told : IsAnswer views (shape_view handle.shape) handle.numbers polled
    pub pending : polled ≡ Ok None → OneRuns views handle.numbers
    pub knows : KnowsIfEnded handle after polled
    pub kept : IfSome before.known (λ known. after.known ≡ Some known)
    pub again : IfSome before.known (λ known. GivesAgain handle known polled)

-- the clock may show a moment whose sum with the timeout is a `Duration`
abbrev pub IsTimely : (Duration → Type 0) → Duration → Type 0
IsTimely shows timeout =
    (moment : Duration) × shows moment × FitsDuration (as_nanos moment + as_nanos timeout)

-- the clock may show a moment whose sum with the timeout is no `Duration`
abbrev pub IsLate : (Duration → Type 0) → Duration → Type 0
IsLate shows timeout =
    (moment : Duration) × shows moment × (FitsDuration (as_nanos moment + as_nanos timeout) → ⊥)

-- What a call of a shell does that starts an expression, from where it begins: its journal is that
-- of the last start, unless it is kept; a limit of time counts from then.
use Rattle.std.specs.Prelude.{ℕ, ◌+◌, ◌⊎◌, Bool, true, false, ◌≡◌, List, None, Ok, Err, min, Result}
use Rattle.std.specs.Duration.{as_nanos, max_nanos}
use Rattle.std.specs.declared.time.Duration.{Duration}
use Rattle.duct_base.specs.Pool.{PoolView}
use Rattle.duct_system.specs.EntryView.{EntryView}
use Rattle.duct_system.specs.Journal.{JournalView, IsCleared}
use Rattle.duct_system.specs.SystemViews.{SystemViews}
use Rattle.duct_system.specs.Trace.{segment}
use Rattle.duct_system.specs.declared.error.Error.{Error}
use Rattle.duct_system.specs.declared.error.Error.TheVariants.{Memory}
use Rattle.duct_start.specs.Chain.{Allows, Refuses}
use Rattle.duct_running.specs.Stored.{Bytes}
use Rattle.duct_handle.specs.HandleView.{HandleView}
use Rattle.duct.specs.Launched.{IsStart, reading}
use Rattle.duct.specs.declared.expression.Expression.{Expression}
use Rattle.duct_shell.specs.Converted.{IsRunAnd}
use Rattle.duct_tasks.specs.FailedRequest.{Names}
use Rattle.duct_tasks.specs.declared.lines.LinesError.{LinesError}
use Rattle.duct_tasks.specs.declared.lines.LinesError.TheVariants as lines
use Rattle.duct_shell.specs.declared.failure.Cause.TheVariants as cause
use Rattle.duct_shell.specs.declared.failure.Failure.{Failure}

-- the failure of a call for which its lines were not handed on: an error of the closure; or another
-- one, which names the request of these entries
abbrev pub IsFailureOf : LinesError → List EntryView → Failure → Type 0
IsFailureOf (lines.Closure e) added failure =
    failure ≡ record { cause = cause.Io e; request = None }
IsFailureOf (lines.Run e) added failure =
    (failure.cause ≡ cause.Run e) × Names added failure.request

module _ {S : Type 0} (journal : S → JournalView) where
  -- the journal was cleared; or it is kept, and nothing was done
  abbrev pub Begins : Bool → S → S → Type 0
  Begins true old begun = begun ≡ old
  Begins false old begun = IsCleared (journal old) (journal begun)

  -- this was done to the system and the pool, from where the call began; a failure has the error
  -- of that, and names the request of the entries that were added since then
  abbrev pub Calls : {P T : Type 0} → Bool → (S × P → Result T Error → S × P → Type 0) → S × P
      → Result T Failure → S × P → Type 0
  Calls keeps does before (Ok value) after =
      (begun : S) × Begins keeps before.0 begun × does (begun, before.1) (Ok value) after
  Calls keeps does before (Err failure) after =
      (begun : S) × Begins keeps before.0 begun
      × (IsRunAnd failure.cause (λ e. does (begun, before.1) (Err e) after)
      × Names (segment (journal begun).entries (journal after.0).entries) failure.request)

  -- the same of a call that fails with an error of its lines
  abbrev pub CallsLines : {P T : Type 0} → Bool → (S × P → Result T LinesError → S × P → Type 0)
      → S × P → Result T Failure → S × P → Type 0
  CallsLines keeps does before (Ok value) after =
      (begun : S) × Begins keeps before.0 begun × does (begun, before.1) (Ok value) after
  CallsLines keeps does before (Err failure) after =
      (begun : S) × Begins keeps before.0 begun
      × (e : LinesError) × does (begun, before.1) (Err e) after
      × IsFailureOf e (segment (journal begun).entries (journal after.0).entries) failure

-- this was done until a moment, in nanoseconds: this long after a time that the clock may show
pub record FromNow {P T : Type 0} (shows : Duration → Type 0) (limit : Duration)
    (does : (Duration → Type 0) → ℕ → P → T → P → Type 0) (before : P) (result : T) (after : P)
    : Type 0 where
  pub now : Duration
  pub shown : shows now
  pub moment : ℕ
  pub counted : moment ≡ min (as_nanos now + as_nanos limit) max_nanos
  pub done : does shows moment before result after

module _ {S E C F D : Type 0} (views : SystemViews S E C F D (Unit {0}) Bytes) {H : Type 0}
    (allows : Allows H) (refuses : Refuses H) (root : Expression E H) where
  -- what `Expression::reader` promises; or there was no memory for a further owner of the runtime,
  -- and nothing was done
  abbrev pub IsReader : S × PoolView C → Result HandleView Error → S × PoolView C → Type 0
  IsReader before result after = IsStart views allows refuses root reading before result after
      ⊎ ((result ≡ Err Memory) × (after.0 ≡ before.0) × (after.1 ≡ before.1))

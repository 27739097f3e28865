-- The jobs of a shell: the handles that it keeps, each under its key.
use Rattle.std.specs.Prelude.{ℕ, ◌+◌, ◌<◌, ◌≡◌, ◌⊎◌, ◌==◌, ◌&&◌, Bool, List, [], ◌∷◌, ◌++◌, Ok, Err, Some, None, if◌then◌else◌, length, remove, slice_get, slice_index_or, unwrap_or, Option, Result}
use Rattle.duct_base.specs.Pool.{PoolView}
use Rattle.duct_system.specs.SystemViews.{SystemViews}
use Rattle.duct_system.specs.declared.error.Error.{Error}
use Rattle.duct_system.specs.declared.error.Error.TheVariants.{Memory}
use Rattle.duct_system.specs.declared.system.Output.{Output}
use Rattle.duct_status.specs.ReplyView.{answered}
use Rattle.duct_status.specs.ShapeView.{shape_view}
use Rattle.duct_start.specs.Chain.{Allows, Refuses}
use Rattle.duct_running.specs.Answered.{IsAnswer, IsConcluded}
use Rattle.duct_running.specs.Stored.{Bytes}
use Rattle.duct_handle.specs.Finished.{AreGiven, IsMismatch}
use Rattle.duct_handle.specs.HandleView.{HandleView}
use Rattle.duct.specs.Launched.{IsStart, draining}
use Rattle.duct.specs.declared.expression.Expression.{Expression}
use Rattle.duct_shell.specs.Converted.{IsRunAnd}
use Rattle.duct_shell.specs.declared.failure.Failure.{Failure}
use Rattle.duct_shell.specs.declared.failure.Cause.TheVariants.{NoJob}
use Rattle.duct_shell.specs.declared.jobs.Job.{Job}

-- handles, each with its key
abbrev pub Kept : Type 0
Kept = List (Job × HandleView)

-- how many jobs were launched, and the handles of those that are not spent, in order
pub record JobsView : Type 0 where
  pub launched : ℕ
  pub kept : Kept

-- whether a handle has this key
abbrev pub is_key : Job → Job × HandleView → Bool
is_key job pair = (pair.0.count == job.count) && (pair.0.process == job.process)

-- the handle with this key
abbrev pub find_in : Job → Kept → Option HandleView
find_in job [] = None
find_in job (pair ∷ rest) = if is_key job pair then Some pair.1 else find_in job rest

-- the others
abbrev pub without : Job → Kept → Kept
without job [] = []
without job (pair ∷ rest) = if is_key job pair then rest else pair ∷ without job rest

-- this is the first place of the key
pub record IsPlace (job : Job) (kept : Kept) (place : ℕ) : Type 0 where
  pub below : place < length kept
  pub finds : (d : Job × HandleView) → find_in job kept ≡ Some (slice_index_or kept place d).1
  pub leaves : without job kept ≡ remove kept place

-- the handle of the job with this key
abbrev pub find : Job → JobsView → Option HandleView
find job jobs = find_in job jobs.kept

-- the jobs after the one with this key is spent, if there is one
abbrev pub spend : Job → JobsView → JobsView
spend job jobs = record jobs { kept = without job jobs.kept }

-- the count of each key is above this
abbrev pub AreAbove : ℕ → Kept → Type 0
AreAbove count [] = Unit {0}
AreAbove count (pair ∷ rest) = (count < pair.0.count) × AreAbove count rest

-- the count of each key is below this, and below those after it
abbrev pub AreCounted : ℕ → Kept → Type 0
AreCounted next [] = Unit {0}
AreCounted next (pair ∷ rest) =
    (pair.0.count < next) × AreAbove pair.0.count rest × AreCounted next rest

-- one more job: its key is the count of the launches before it, with the process id of its first
-- command, and finds its handle
pub record Adds (before : JobsView) (job : Job) (handle : HandleView) (after : JobsView)
    : Type 0 where
  pub count : job.count ≡ before.launched
  pub process : job.process ≡ unwrap_or (slice_get handle.ids 0) 0
  pub kept : after.kept ≡ before.kept ++ (job, handle) ∷ []
  pub launched : after.launched ≡ before.launched + 1
  pub found : find job after ≡ Some handle

-- a call by a key fails with `NoJob` if no job has it; else it does this with the job's handle, and
-- a failure has that call's error
abbrev pub ByKey : {T : Type 0} → Option HandleView → (HandleView → Result T Error → Type 0)
    → Result T Failure → Type 0
ByKey None does result = result ≡ Err (record { cause = NoJob; request = None })
ByKey (Some handle) does (Ok value) = does handle (Ok value)
ByKey (Some handle) does (Err failure) =
    IsRunAnd failure.cause (λ e. does handle (Err e)) × (failure.request ≡ None)

module _ {S E C F D : Type 0} (views : SystemViews S E C F D (Unit {0}) Bytes) where
  -- what `Handle::into_output` promises
  abbrev pub IsSpent : PoolView C → PoolView C → HandleView → Result Output Error → Type 0
  IsSpent before after handle (Ok output) =
      IsConcluded views (shape_view handle.shape) handle.numbers
      (answered output.status output.stdout.items output.stderr.items) × (after ≡ before)
  IsSpent before after handle (Err e) =
      IsAnswer views (shape_view handle.shape) handle.numbers (Err e)
      × AreGiven views handle.numbers (IsMismatch e) before after

  -- the children of all these handles were given to the pool, those of the last one first
  abbrev pub AreAllGiven : Kept → PoolView C → PoolView C → Type 0
  AreAllGiven [] before after = after ≡ before
  AreAllGiven (pair ∷ rest) before after = (mid : PoolView C) × AreAllGiven rest before mid
      × AreGiven views pair.1.numbers (Unit {0}) mid after

module _ {S E C F D : Type 0} (views : SystemViews S E C F D (Unit {0}) Bytes) {H : Type 0}
    (allows : Allows H) (refuses : Refuses H) (root : Expression E H) where
  -- what `Expression::start` promises, and there is one more job; or it failed, or there was no
  -- room for its key and nothing was done, and the jobs are as before
  abbrev pub IsLaunch : JobsView → JobsView → S × PoolView C → Result Job Error → S × PoolView C
      → Type 0
  IsLaunch jobs left before (Ok job) after = (handle : HandleView)
      × IsStart views allows refuses root draining before (Ok handle) after
      × Adds jobs job handle left
  IsLaunch jobs left before (Err e) after = (left ≡ jobs)
      × (IsStart views allows refuses root draining before (Err e) after
      ⊎ ((e ≡ Memory) × (after.0 ≡ before.0) × (after.1 ≡ before.1)))

-- What was done for the steps of a file.
use Rattle.std.specs.Prelude.{◌≡◌, ◌≢◌, ◌⊎◌, ◌^◌, ℕ, List, Bool, true, max, not, None, Option}
use Rattle.std.specs.Duration.{as_nanos}
use Rattle.std.specs.List.{list_any}
use Rattle.std.specs.declared.time.Duration.{Duration}
use Rattle.duct_base.specs.Pool.{PoolView}
use Rattle.duct_system.specs.SystemViews.{SystemViews}
use Rattle.duct_start.specs.Chain.{Allows, Refuses}
use Rattle.duct_running.specs.Stored.{Bytes}
use Rattle.duct.specs.declared.expression.Expression.{Expression}
use Rattle.duct_tasks.specs.Tasks.{RanAll, has_failed}
use Rattle.duct_tasks.specs.declared.finished.Finished.{Finished}
use Rattle.duct_tasks.specs.declared.many.AtFailure.TheVariants.{Stop}
use Rattle.duct_tasks.specs.declared.many.Tasks.{Tasks}
use Rattle.steps.specs.declared.options.Options.{Options}

-- no step is to run: a script is to be written, or a recording to be replayed
abbrev pub RunsNone : Options → Type 0
RunsNone options = (options.is_dry ≡ true) ⊎ (options.replay ≢ None)

module _ {S E C F D : Type 0} (views : SystemViews S E C F D (Unit {0}) Bytes) {R : Type 0}
    (may : ℕ → R → Type 0) (remaining : R → Option (List ℕ)) {H : Type 0} (allows : Allows H)
    (refuses : Refuses H) {K : Type 0} (may_show : K → Duration → Type 0) where
  -- these commands ran as tasks, so many at once, with this limit and a second of grace, which a
  -- failure stops; this came of those that were started
  pub record Ran (commands : List (Expression E H)) (at_once : ℕ) (limit : Option Duration)
      (before : S) (ends : List Finished) (after : S) : Type 0 where
    pub tasks : Tasks E H K
    pub all_are : tasks.all.now ≡ commands
    pub at_once_is : tasks.at_once ≡ max at_once 1
    pub limit_is : tasks.limit ≡ limit
    pub grace_is : as_nanos tasks.grace ≡ 10 ^ 9
    pub stops : tasks.at_failure ≡ Stop
    pub first : PoolView C
    pub last : PoolView C
    pub ran : RanAll views may remaining allows refuses may_show tasks (before, first) ends
        (after, last)

  -- some commands ran so. If that went well none has failed: all were started, and ended well. Else
  -- one has failed
  pub record RanTo (options : Options) (well : Bool) (before after : S) : Type 0 where
    pub commands : List (Expression E H)
    pub ends : List Finished
    pub ran : Ran commands options.jobs options.limit before ends after
    pub went : list_any has_failed ends ≡ not well

-- What a request of a run does, by the views of its system.
use Rattle.std.specs.Prelude.{OnOk, IfErr, List, [], ◌≡◌, is_some, Result}
use Rattle.duct_run.specs.Actions.{Action, State}
use Rattle.duct_start.specs.Chain.{Allows, Refuses}
use Rattle.duct_run.specs.ResourcesView.{ResourcesView, AreNew, HasSameWorkers, empty_resources, resources_view}
use Rattle.duct_run.specs.RunInvariant.{ActionSucceeds, IsHookError, ActionFails, ReadyForActions, RunContext, RunInvariant}
use Rattle.duct_system.specs.declared.error.Error.{Error}
use Rattle.duct_base.specs.Pool.{PoolView, IsGiven}
use Rattle.duct_start.specs.Left.{Leaves, pool_view}
use Rattle.duct_system.specs.SpecView.{SpecView, Vars}
use Rattle.duct_run.specs.Commands.{ActionSucceedsWith, ActionFailsWith, HooksFail, HooksSucceed, StoppedWithCause}
use Rattle.duct_run.specs.RunContract.{PlanTail, ActionsFail, ActionsSucceed, HaveWorkers, tail_for}
use Rattle.duct_run.specs.GivesUp.{GivesUp}
use Rattle.duct_run.specs.StreamsView.{streams_view}
use Rattle.duct_system.specs.SystemViews.{SystemViews}
use Rattle.duct_run.specs.declared.resources.Resources.{Resources}
use Rattle.duct_run.specs.declared.start.StartKind.{StartKind}
use Rattle.duct_run.specs.declared.streams.Streams.{Streams}

module _ {S E C F D V W : Type 0} (views : SystemViews S E C F D V W) where
  -- the resources, by numbers
  abbrev pub resources_of : Resources E C F D → ResourcesView
  resources_of held = resources_view views.number_of views.child views.feed views.drain held

  -- no child was polled or given an order, and no worker was polled
  abbrev pub HoldsUnasked : Resources E C F D → Type 0
  HoldsUnasked held = AreNew views.child views.feed views.drain held

  -- an action succeeds, by the resources before and after it
  abbrev pub RequestSucceeds : {H : Type 0} → Allows H → Action E H → S → S → Resources E C F D
      → Resources E C F D → Type 0
  RequestSucceeds allows action sys after held kept = ActionSucceeds allows views.number_of action
      (views.journal sys) (views.journal after) (resources_of held) (resources_of kept)

  -- an action fails with an error that is not a hook's
  abbrev pub RequestFails : {H : Type 0} → Allows H → Action E H → S → S → Resources E C F D
      → Resources E C F D → Error → Type 0
  RequestFails allows action sys after held kept error =
      (IsHookError error → ⊥) × ActionFails allows views.number_of action (views.journal sys)
      (views.journal after) (resources_of held) (resources_of kept) error

  -- what a request does, whatever it returns
  pub record Requested {H : Type 0} (allows : Allows H) (action : Action E H)
      (result : Result (Unit {0}) Error) (sys after : S)
      (held kept : Resources E C F D) : Type 0 where
    pub ok : OnOk result (RequestSucceeds allows action sys after held kept)
    pub err : IfErr result (RequestFails allows action sys after held kept)
    pub new : HoldsUnasked held → HoldsUnasked kept
    pub workers : HasSameWorkers held kept

  -- an action succeeds, where the system returned these variables
  abbrev pub CommandSucceeds : {H : Type 0} → Allows H → Vars → Action E H → S → S
      → Resources E C F D
      → Resources E C F D → Type 0
  CommandSucceeds allows pairs action sys after held kept = ActionSucceedsWith allows
      views.number_of pairs
      action (views.journal sys) (views.journal after) (resources_of held) (resources_of kept)

  -- an action fails with this error, where the system returned these variables
  abbrev pub CommandFails : {H : Type 0} → Allows H → Refuses H → Vars → Action E H → S → S
      → Resources E C F D → Resources E C F D → Error → Type 0
  CommandFails allows refuses pairs action sys after held kept error = ActionFailsWith allows
      refuses views.number_of pairs action (views.journal sys) (views.journal after)
      (resources_of held)
      (resources_of kept) error

  -- what an action does, whatever it returns
  pub record Performed {H : Type 0} (allows : Allows H) (refuses : Refuses H) (pairs : Vars)
      (action : Action E H) (result : Result (Unit {0}) Error) (sys after : S)
      (held kept : Resources E C F D) : Type 0 where
    pub ok : OnOk result (CommandSucceeds allows pairs action sys after held kept)
    pub err : IfErr result (CommandFails allows refuses pairs action sys after held kept)
    pub new : HoldsUnasked held → HoldsUnasked kept
    pub workers : HasSameWorkers held kept

  -- the actions succeed: whatever run is ready for them goes on to where they lead
  abbrev pub ActionsPerformed : {H : Type 0} → Allows H → Vars → List (Action E H) → S → S
      → Resources E C F D → Resources E C F D → Type 0
  ActionsPerformed {H} allows pairs actions sys after held kept =
      (context : RunContext) (goal : State E H) → context.pairs ≡ pairs
      → ReadyForActions allows views.number_of context goal actions (views.journal sys)
      (resources_of held)
      → RunInvariant allows views.number_of context goal (views.journal after) (resources_of kept)

  -- the actions fail with this error: whatever run is ready for them stops before where they lead
  abbrev pub ActionsStopped : {H : Type 0} → Allows H → Refuses H → Vars → List (Action E H) → S → S
      → Resources E C F D → Resources E C F D → Error → Type 0
  ActionsStopped {H} allows refuses pairs actions sys after held kept error =
      (context : RunContext) (goal : State E H) → context.pairs ≡ pairs
      → ReadyForActions allows views.number_of context goal actions (views.journal sys)
      (resources_of held)
      → StoppedWithCause allows refuses views.number_of context goal.plan.items
      (views.journal after) (resources_of kept) error

  -- the hooks of a command succeed: they change its spec and its streams
  abbrev pub ChangeSucceeds : {H : Type 0} → Allows H → List (H × List E) → S → S → SpecView
      → SpecView → Streams E → Streams E → Type 0
  ChangeSucceeds allows hooks sys after spec made old new = HooksSucceed allows views.number_of
      hooks (views.journal sys) (views.journal after) spec made
      (streams_view views.number_of old) (streams_view views.number_of new)

  -- a hook of a command fails with this error
  abbrev pub ChangeFails : {H : Type 0} → Allows H → Refuses H → List (H × List E) → S → S
      → SpecView → Streams E → Streams E → Error → Type 0
  ChangeFails allows refuses hooks sys after spec old new error = HooksFail allows refuses
      views.number_of hooks (views.journal sys) (views.journal after) spec
      (streams_view views.number_of old) (streams_view views.number_of new) error

  -- these children were given to the pool, which polled each once: it keeps those that run
  abbrev pub PoolGets : List C → PoolView C → PoolView C → Type 0
  PoolGets children before after = IsGiven views.may_answer views.child children before after

  -- the actions succeeded, and then the requests of the tail
  abbrev pub RunSucceeds : {H : Type 0} → Allows H → PlanTail E H → List (Action E H) → S → S
      → Resources E C F D → Type 0
  RunSucceeds allows ending actions sys after held = ActionsSucceed allows views.number_of ending
      actions
      (views.journal sys) (views.journal after) (resources_of held)

  -- the run failed with this error
  abbrev pub RunFails : {H : Type 0} → Allows H → Refuses H → PlanTail E H → List (Action E H) → S
      → S → Resources E C F D → Error → Type 0
  RunFails allows refuses ending actions sys after held error = ActionsFail allows refuses
      views.number_of ending actions (views.journal sys) (views.journal after)
      (resources_of held) error

  -- the run failed with this error, and its resources were given up
  abbrev pub RunGivesUp : {H : Type 0} → Allows H → Refuses H → PlanTail E H → List (Action E H) → S
      → S → PoolView C → PoolView C → Error → Type 0
  RunGivesUp allows refuses ending actions sys after before left error = GivesUp allows refuses
      views.number_of views.child views.feed views.drain views.may_answer ending actions
      (views.journal sys) (views.journal after) before left error

  -- nothing is held, and nothing that could be was used
  pub record AreUnused (held : Resources E C F D) : Type 0 where
    pub begun : resources_of held ≡ empty_resources
    pub new : HoldsUnasked held

  -- a run of a start of this kind succeeded: its requests, what it leaves in its resources, and the
  -- pool, which was only swept
  pub record StartRuns {H : Type 0} (allows : Allows H) (kind : StartKind)
      (actions : List (Action E H)) (sys after : S) (before left : PoolView C)
      (held : Resources E C F D) : Type 0 where
    pub runs : RunSucceeds allows (tail_for kind) actions sys after held
    pub new : HoldsUnasked held
    pub workers : HaveWorkers kind views.number_of actions (is_some held.drains.out)
        (is_some held.drains.err)
    pub swept : Leaves views.may_answer [] (pool_view views.child before)
        (pool_view views.child left)

-- A run from the environment to the capture pipes.
use Rattle.std.proofs.Common.{◌≡◌, ℕ, ◌≤◌, List, [], ◌∷◌, ◌++◌, length, refl, ap, sym, ◌∙◌, append_assoc, arith, subst, Err, None, Ok, Some, is_some, slice_get, Option}
use Rattle.duct_run.proofs.Common.{append-nil, EntryView, Environment, JournalView, Asks, IsRefused, trace, Error, System, Fault, Side, at_side, Action, Leads, State, with_capture_finished, with_plan, StoppedBy, Allows, Refuses, StoppedWithCause, ResourcesView, empty_resources, open_ends, Plan, initial_plan, with_drain, with_reader, PlanTail, HaveWorkers, ActionsFail, ActionsSucceed, LeadToSomePlan, context_of, no_tail, reader_tail, tail_for, StartKind, Draining, Reading, RunContext, ActionSucceeds, IsHookError, ActionFails, ReadyForActions, Item, AskEnvironment, AskDrain, AskReader}
use Rattle.duct_system.specs.declared.system.Side.TheVariants as side
use Rattle.duct_run.specs.Actions as action
use Rattle.duct_run.proofs.Running.{items_grow, invariant_begun, stopped_begun}
use Rattle.duct_run.proofs.Spawning.{plain_refused, stopped_front}
use Rattle.duct_run.proofs.Stacks.{get_front}

-- the second plan has the items of the first, and perhaps more after them
abbrev pub GoesOn : {E H : Type 0} → Plan E H → Plan E H → Type 0
GoesOn {E} {H} p q = (more : List (Item E H)) × (q.items ≡ p.items ++ more)

drains_more : {E H : Type 0} (capture : Option ℕ) (p : Plan E H) → GoesOn p (with_drain capture p)
drains_more None p = ([], sym (append-nil p.items))
drains_more (Some place) p = (AskDrain place ∷ [], refl)

-- finishing a capture pipe with its drain worker only adds items to a plan
pub finished_more : {E H : Type 0} (which : Side) (p : Plan E H) → GoesOn p (with_capture_finished which p)
finished_more which p = drains_more (at_side p.pipes which) p

-- finishing a capture pipe with a reader only adds items to a plan
pub read_more : {E H : Type 0} (p : Plan E H) → GoesOn p (reader_tail p)
read_more p = by p.pipes.out
  where
    by : (capture : Option ℕ) → GoesOn p (with_reader capture p)
    by None = ([], sym (append-nil p.items))
    by (Some place) = (AskReader place ∷ [], refl)

goes_further : {E H : Type 0} (p q r : Plan E H) → GoesOn p q → GoesOn q r → GoesOn p r
goes_further p q r first then =
    (first.0 ++ then.0, then.1 ∙ ap (λ l. l ++ then.0) first.1 ∙ append_assoc p.items first.0 then.0)

-- how a start ends only adds items to a plan
pub tail_more : {E H : Type 0} (kind : StartKind) (p : Plan E H) → GoesOn p (tail_for kind p)
tail_more Draining p =
    goes_further p (with_capture_finished side.Out p) (tail_for Draining p) (finished_more side.Out p) (finished_more side.Err (with_capture_finished side.Out p))
tail_more Reading p =
    goes_further p (with_capture_finished side.Err p) (tail_for Reading p) (finished_more side.Err p) (read_more (with_capture_finished side.Err p))

module _ {E H : Type 0} {allows : Allows H} {number_of : E → ℕ} {actions : List (Action E H)} where
  -- the run once the environment was returned
  pub stood_begun : {context : RunContext} {plan : Plan E H} {one : JournalView} {held : ResourcesView}
      → held ≡ empty_resources → context.front ≡ []
      → Leads number_of context.base context.bound (with_plan initial_plan) actions (with_plan plan)
      → Asks (Environment (Ok context.pairs)) context.old one
      → ReadyForActions allows number_of context (with_plan plan) actions one held
  stood_begun {context} {plan} {one} {held} nothing none leads asked =
      subst (λ (h : ResourcesView). ReadyForActions allows number_of context (with_plan plan) actions one h) (sym nothing) (record {
        state = with_plan initial_plan;
        invariant = invariant_begun context one allows number_of none asked;
        ready = leads.ready;
        goal_is = leads.is;
      })

-- the actions and the tail succeeded
module _ {E H : Type 0} {allows : Allows H} {number_of : E → ℕ} {ending : PlanTail E H} {actions : List (Action E H)} {old now : JournalView} {held : ResourcesView}
    (runs : ActionsSucceed allows number_of ending actions old now held) where
  -- there is room to give back all ends that the run holds
  pub run_room : LeadToSomePlan number_of actions → length (open_ends held) ≤ now.room
  run_room leads = let invariant = runs.1 leads.0 leads.1 leads.2 leads.3 in omega (arith, invariant.ledger.room_is)

  -- a capture pipe is finished
  pub run_succeeds : (which : Side) {next : JournalView} {kept : ResourcesView}
      → ActionSucceeds allows number_of (action.finish which) now next held kept
      → ActionsSucceed allows number_of (λ plan. with_capture_finished which (ending plan)) actions old next kept
  run_succeeds which goes = (
    runs.0,
    λ base bound plan leads. goes (context_of old base bound runs.0) (with_plan (ending plan))
        (record { full = omega arith; needs = tt; low = omega arith }) (runs.1 base bound plan leads),
  )

  -- finishing a capture pipe fails
  pub run_fails : {refuses : Refuses H} (which : Side) {next : JournalView} {kept : ResourcesView}
      {e : Error} → (IsHookError e → ⊥)
      → ActionFails allows number_of (action.finish which) now next held kept e
      → ActionsFail allows refuses number_of (λ plan. with_capture_finished which (ending plan)) actions old next
      kept e
  run_fails {refuses} which {next} {kept} {e} plain quits = (
    runs.0,
    λ base bound plan leads. plain_refused allows refuses number_of (context_of old base bound runs.0) (with_capture_finished which (ending plan)).items next kept e plain
        (quits (context_of old base bound runs.0) (with_plan (ending plan)) (record { full = omega arith; needs = tt; low = omega arith }) (runs.1 base bound plan leads)),
  )

-- the run holds the capture pipes of its plan
pub run_pipes : {E H : Type 0} {allows : Allows H} {number_of : E → ℕ} {actions : List (Action E H)} {old now : JournalView} {held : ResourcesView}
    → ActionsSucceed allows number_of no_tail actions old now held
    → HaveWorkers Draining number_of actions (is_some held.pipes.out) (is_some held.pipes.err)
run_pipes runs base bound plan leads =
    let invariant = runs.1 base bound plan leads in (invariant.shaped.pipes side.Out, invariant.shaped.pipes side.Err)

module _ {E H : Type 0} (allows : Allows H) (refuses : Refuses H) (number_of : E → ℕ) where
  -- a failed run, with more items that were not reached
  refused_more : (context : RunContext) (items more : List (Item E H)) (now : JournalView)
      (held : ResourcesView) (e : Error) → StoppedWithCause allows refuses number_of context items now held e →
      StoppedWithCause allows refuses number_of context (items ++ more) now held e
  unfolding stopped_front
  refused_more context items more now held e refused = record {
    stopped = stopped_front allows number_of context items more now held e refused.stopped;
    cause = λ is l later.
        let place = length (trace refused.stopped.added) in
        let entries = trace (refused.stopped.added ++ l) in
        further entries place (slice_get items place) (slice_get (items ++ more) place) (λ item there. get_front items more place item there) (refused.cause is l later);
  }
    where
      further : (entries : List EntryView) (place : ℕ) (o other : Option (Item E H))
          → ((item : Item E H) → o ≡ Some item → other ≡ Some item)
          → StoppedBy allows refuses number_of entries place o e →
          StoppedBy allows refuses number_of entries place other e
      further entries place None other same stopped = absurd stopped
      further entries place (Some item) other same stopped = subst (λ (o : Option (Item E H)). StoppedBy allows refuses number_of entries place o e) (sym (same item refl)) stopped

module _ {E H : Type 0} {allows : Allows H} {refuses : Refuses H} {number_of : E → ℕ} {actions : List (Action E H)} {old : JournalView} where
  -- a run that failed before further requests were made
  pub refused_before : {ending : PlanTail E H} {now : JournalView} {held : ResourcesView} {e : Error} (further : PlanTail E H)
      → ((plan : Plan E H) → GoesOn plan (further plan)) → ActionsFail allows refuses number_of ending actions old now held e
      → ActionsFail allows refuses number_of (λ plan. further (ending plan)) actions old now held e
  refused_before {ending} {now} {held} {e} further more refused = (
    refused.0,
    λ base bound plan leads.
        let m = more (ending plan) in
        subst (λ (l : List (Item E H)). StoppedWithCause allows refuses number_of (context_of old base bound refused.0) l now held e) (sym m.1)
        (refused_more allows refuses number_of (context_of old base bound refused.0) (ending plan).items m.0 now held e (refused.1 base bound plan leads)),
  )

  -- the request for the environment was refused
  pub environment_refused : {now : JournalView} {held : ResourcesView} {fault : Fault} → held ≡ empty_resources
      → IsRefused (Environment (Err fault)) 0 fault old now
      → ActionsFail allows refuses number_of no_tail actions old now held (System fault)
  environment_refused {now} {held} {fault} nothing refused = (
    [],
    λ base bound plan leads.
        let context = context_of old base bound [] in
        let grow = items_grow (with_plan {E = E} {H = H} initial_plan) actions in
        let items : AskEnvironment ∷ grow.0 ≡ plan.items = sym grow.1 ∙ ap (λ (s : State E H). s.plan.items) leads.is in
        subst (λ (h : ResourcesView). StoppedWithCause allows refuses number_of context plan.items now h (System fault)) (sym nothing)
        (subst (λ (l : List (Item E H)). StoppedWithCause allows refuses number_of context l now empty_resources (System fault)) items
        (plain_refused allows refuses number_of context (AskEnvironment ∷ grow.0) now empty_resources (System fault) (λ no. no) (stopped_begun context now allows number_of grow.0 fault refused))),
  )

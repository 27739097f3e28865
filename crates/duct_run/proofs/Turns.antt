-- One more action of a run's list, where the system returned these variables.
use Rattle.std.proofs.Common.{◌≡◌, ℕ, ◌+◌, ◌<◌, ◌≤◌, List, [], ◌∷◌, ◌++◌, All, length, map, drop, get_or, suc, refl, ap, sym, ◌∙◌, arith, subst, None, Some, is_some, slice_get, option_map, option_to_list, Option}
use Rattle.duct_run.proofs.Common.{drop_all, get_or-map, length-map, All-get_or, ChildView, EntryView, JobView, unpolled_job, JournalView, Vars, trace, Error, Memory, Side, at_side, PerSide, Action, ActionOf, AreReady, Scope, State, advance, after_actions, pop_count, StoppedBy, Allows, Refuses, ActionSucceedsWith, StoppedWithCause, ActionFailsWith, ResourcesView, open_ends, AreNew, AreSame, HasSameWorkers, both, pipes_view, resources_view, stack_view, IsWithin, resolved, resolved_all, FindsItsEnds, RunContext, IsHookError, IsAllocationFailure, RunInvariant, ReadyForActions, GivesUnder, IsEarly, Item, action_view, actions_view, Resources}
use Rattle.std.proofs.Math.Seq.{drop-cons}
use Rattle.duct_system.specs.Child as child_spec
use Rattle.duct_run.specs.Actions as action
use Rattle.duct_run.proofs.Running.{can_now, memory_now, items_grow}
use Rattle.duct_run.proofs.Spawning.{plain_refused}
use Rattle.duct_run.proofs.Stacks.{get_front}
use Rattle.duct_run.proofs.RunInvariant.{answers_front}
use Rattle.duct_run.specs.declared.action.Action as declared
use Rattle.duct_run.proofs.Pushed.{still}

-- a mapped option has a value where the option has one
pub some_mapped : {A B : Type 0} (f : A → B) (o : Option A)
    → is_some (option_map f o) ≡ is_some o
some_mapped f None = refl
some_mapped f (Some x) = refl

-- an action pops as many ends in each scope
pub pops_resolved : {E H : Type 0} (scopes : List (Scope E H)) (act : ActionOf E ℕ)
    → pop_count (resolved scopes act) ≡ pop_count act
pops_resolved scopes (action.open_read path) = refl
pops_resolved scopes (action.create path) = refl
pops_resolved scopes action.pipe = refl
pops_resolved scopes action.input = refl
pops_resolved scopes (action.capture which) = refl
pops_resolved scopes (action.duplicate depth) = refl
pops_resolved scopes (action.duplicate_capture which) = refl
pops_resolved scopes (action.duplicate_caller_end end) = refl
pops_resolved scopes (action.parent which) = refl
pops_resolved scopes action.close = refl
pops_resolved scopes (action.spawn i words ports) = refl
pops_resolved scopes (action.feed bytes) = refl
pops_resolved scopes (action.finish which) = refl

-- the actions from an index on, starting with the one at the index
pub rest_is : {E H : Type 0} (scopes : List (Scope E H)) (xs : List (declared.Action E)) (i : ℕ)
    (x : declared.Action E) → i < length xs → x ≡ get_or xs i x
    → resolved_all scopes (actions_view (drop i xs))
    ≡ resolved scopes (action_view x) ∷ resolved_all scopes (actions_view (drop (i + 1) xs))
rest_is {E} {H} scopes xs i x within is =
    let next : suc i ≡ i + 1 = omega arith in
    ap (λ (l : List (declared.Action E)). resolved_all scopes (actions_view l)) (drop-cons xs i x within ∙ ap (λ (y : declared.Action E). y ∷ drop (suc i) xs) (sym is) ∙ ap (λ (k : ℕ). x ∷ drop k xs) next)

-- no action is left after the last
pub rest_none : {E H : Type 0} (scopes : List (Scope E H)) (xs : List (declared.Action E)) (i : ℕ)
    → length xs ≤ i → resolved_all scopes (actions_view (drop i xs)) ≡ []
rest_none {E} {H} scopes xs i past = ap (λ (l : List (declared.Action E)). resolved_all scopes (actions_view l)) (drop_all i xs past)

-- the action at an index names an existing scope, as all do
pub within_at : {E : Type 0} (count : ℕ) (xs : List (declared.Action E)) (i : ℕ)
    (x : declared.Action E) → i < length xs → x ≡ get_or xs i x
    → All (IsWithin count) (actions_view xs) → IsWithin count (action_view x)
within_at {E} count xs i x within is all =
    let low : i < length (actions_view xs) = omega (arith, within, length-map xs (λ a. action_view a)) in
    let there : get_or (actions_view xs) i (action_view x) ≡ action_view x = get_or-map (λ a. action_view a) xs i x (action_view x) within ∙ ap (λ (a : declared.Action E). action_view a) (sym is) in
    subst (λ (a : ActionOf E ℕ). IsWithin count a) there (All-get_or (IsWithin count) (actions_view xs) i (action_view x) low all)

module _ {E C F D V W : Type 0} (end : E → ℕ) (child : C → ChildView) (feed : F → JobView V) (drain : D → JobView W) (old new : Resources E C F D) (same : AreSame old new) where
  held_same : resources_view end child feed drain new ≡ resources_view end child feed drain old
  held_same = λ i. record {
    stack = stack_view end (same.stack i);
    pipes = pipes_view end (same.pipes i);
    children = map (λ c. (child c).number) (same.children i);
    feeds = map (λ f. (feed f).number) (same.feeds i);
    drains = map (λ d. (drain d).number) (both (same.drains i));
  }

  -- with more room the same is held
  pub stood_same : {H : Type 0} (allows : Allows H) (context : RunContext) (goal : State E H)
      (actions : List (Action E H)) (now : JournalView)
      → ReadyForActions allows end context goal actions now (resources_view end child feed drain old)
      → ReadyForActions allows end context goal actions now (resources_view end child feed drain new)
  stood_same allows context goal actions now stood = subst (λ (h : ResourcesView). ReadyForActions allows end context goal actions now h) (sym held_same) stood

  pub new_same : AreNew child feed drain old → AreNew child feed drain new
  new_same is = record {
    children = subst (λ (l : List C). All (λ c. child_spec.IsUnasked (child c)) l) (sym same.children) is.children;
    feeds = subst (λ (l : List F). All (λ f. feed f ≡ unpolled_job (feed f).number) l) (sym same.feeds) is.feeds;
    drains = subst (λ (ds : PerSide (Option D)). (which : Side) → All (λ d. drain d ≡ unpolled_job (drain d).number) (option_to_list (at_side ds which))) (sym same.drains) is.drains;
  }

-- the workers are the same after one action and after several
pub workers_same : {E C F D : Type 0} (old new : Resources E C F D) → AreSame old new
    → HasSameWorkers old new
workers_same old new same = same.drains

module _ {E C F D : Type 0} (one two three : Resources E C F D) where
  pub workers_on : HasSameWorkers one two → HasSameWorkers two three → HasSameWorkers one three
  workers_on first second = second ∙ first

module _ {E H : Type 0} (allows : Allows H) (refuses : Refuses H) (number_of : E → ℕ) where
  stopped_by_as : (entries : List EntryView) (place : ℕ) (error : Error) (o p : Option (Item E H))
      → ((x : Item E H) → o ≡ Some x → p ≡ Some x) →
      StoppedBy allows refuses number_of entries place o error → StoppedBy allows refuses number_of entries place p error
  stopped_by_as entries place error None p stays stopped = absurd stopped
  stopped_by_as entries place error (Some x) p stays stopped = subst (λ (q : Option (Item E H)). StoppedBy allows refuses number_of entries place q error) (sym (stays x refl)) stopped

  module _ (context : RunContext) where
    refused_more : (items more : List (Item E H)) (now : JournalView) (held : ResourcesView)
        (error : Error) → StoppedWithCause allows refuses number_of context items now held error →
        StoppedWithCause allows refuses number_of context (items ++ more) now held error
    refused_more items more now held error refused =
        let stopped = refused.stopped in
        record {
          stopped = record {
            added = stopped.added;
            ledger = stopped.ledger;
            few = stopped.few;
            answers = λ l later. answers_front (GivesUnder (IsEarly context) (stopped.added ++ l)) allows number_of (stopped.added ++ l) 0 items more (trace stopped.added) (stopped.answers l later);
            ended = stopped.ended;
          };
          cause = λ is l later.
              let place = length (trace stopped.added) in
              stopped_by_as (trace (stopped.added ++ l)) place error (slice_get items place) (slice_get (items ++ more) place) (λ x there. get_front items more place x there) (refused.cause is l later);
        }

    -- a run is at its goal when no action is left
    pub invariant_done : (goal : State E H) (actions : List (Action E H)) (now : JournalView)
        (held : ResourcesView) → actions ≡ []
        → ReadyForActions allows number_of context goal actions now held
        → RunInvariant allows number_of context goal now held
    invariant_done goal actions now held none stood =
        let is : stood.state ≡ goal = ap (λ (l : List (Action E H)). after_actions stood.state l) (sym none) ∙ stood.goal_is in
        subst (λ (s : State E H). RunInvariant allows number_of context s now held) is stood.invariant

    module _ (pairs : Vars) (same : context.pairs ≡ pairs) (goal : State E H) (actions rest : List (Action E H)) (act : Action E H) (now : JournalView) (kept : ResourcesView)
        (stood : ReadyForActions allows number_of context goal actions now kept) (is : actions ≡ act ∷ rest) where
      ready_here : AreReady number_of context.base context.bound stood.state (act ∷ rest)
      ready_here = subst (λ (l : List (Action E H)). AreReady number_of context.base context.bound stood.state l) is stood.ready

      goal_here : after_actions stood.state (act ∷ rest) ≡ goal
      goal_here = ap (λ (l : List (Action E H)). after_actions stood.state l) (sym is) ∙ stood.goal_is

      -- the action succeeds
      pub goes_on_saying : (next : JournalView) (other : ResourcesView)
          → ActionSucceedsWith allows number_of pairs act now next kept other
          → ReadyForActions allows number_of context goal rest next other
      goes_on_saying next other goes = record {
        state = advance stood.state act;
        invariant = goes context stood.state same ready_here.0 stood.invariant;
        ready = ready_here.1;
        goal_is = goal_here;
      }

      -- the action fails
      pub refused_now : (next : JournalView) (other : ResourcesView) (error : Error)
          → ActionFailsWith allows refuses number_of pairs act now next kept other error
          → StoppedWithCause allows refuses number_of context goal.plan.items next other error
      refused_now next other error refused =
          let more = items_grow (advance stood.state act) rest in
          let all : (advance stood.state act).plan.items ++ more.0 ≡ goal.plan.items = sym more.1 ∙ ap (λ (x : State E H). x.plan.items) goal_here in
          subst (λ (l : List (Item E H)). StoppedWithCause allows refuses number_of context l next other error) all
          (refused_more (advance stood.state act).plan.items more.0 next other error (refused context stood.state same ready_here.0 stood.invariant))

      -- on allocation failure no request was made
      pub memory_refused : (error : Error) → error ≡ Memory
          → StoppedWithCause allows refuses number_of context goal.plan.items now kept error
      memory_refused error memory = plain_refused allows refuses number_of context goal.plan.items now kept error (λ hooks. subst (λ (e : Error). IsHookError e) memory hooks)
          (memory_now allows number_of context goal actions rest act now kept stood is now error (still now) (subst (λ (e : Error). IsAllocationFailure e) (sym memory) tt))

      -- what the action needs is held, and there is room to give it away
      pub can_here : (pop_count act ≤ length kept.stack) × FindsItsEnds act kept
      can_here = can_now allows number_of context goal actions rest act now kept stood is

      pub room_here : length (open_ends kept) ≤ now.room
      room_here = omega (arith, stood.invariant.ledger.room_is)

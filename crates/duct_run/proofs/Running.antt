-- A run over a list of actions.
use Rattle.std.proofs.Common.{◌≡◌, ℕ, zero, suc, inl, inr, ◌≤◌, List, [], ◌∷◌, ◌++◌, length, refl, ap, sym, ◌∙◌, arith, append_assoc, length-append, subst, take, Some, None, Ok, Err, is_some, if◌then◌else◌, Option}
use Rattle.duct_run.proofs.Common.{append-nil, EntryView, Environment, JournalView, AddsNothing, Asks, IsRefused, opened_numbers, spent_numbers, opened_by, spent_by, child_by, feed_by, drain_by, Error, System, Fault, at_side, Action, State, IsReady, AreReady, after_actions, advance, pop_count, with_plan, Allows, ResourcesView, empty_resources, Plan, initial_plan, with_drain, LedgerInvariant, RunContext, IsPair, OpenEndsWithin, IsShaped, RunInvariant, ReadyForActions, StopInvariant, ActionSucceeds, IsAllocationFailure, FindsItsEnds, refused, unasked, Item, AskEnvironment, AskDrain, AskPipe, items_of, commanded_is}
use Rattle.duct_system.specs.declared.system.Side.TheVariants as side
use Rattle.duct_run.specs.Actions as action
use Rattle.duct_run.proofs.Going.{none_changes}
use Rattle.duct_run.proofs.CapturePipes.{each_none}
use Rattle.duct_run.proofs.RunInvariant.{ledger_more, stops_unasked}

take_none : (count : ℕ) → length (opened_numbers (take count [])) ≡ 0
take_none zero = refl
take_none (suc count) = refl

environment_held : (bound : ℕ) (entry : EntryView) → opened_by entry ≡ [] → spent_by entry ≡ []
    → OpenEndsWithin bound (entry ∷ [])
environment_held bound entry none spent_numbers zero = omega arith
environment_held bound entry none spent_numbers (suc count) =
    omega (arith, take_none count, length-append (opened_by entry) (opened_numbers (take count [])), ap (λ (l : List ℕ). length l) none)

module _ (context : RunContext) (now : JournalView) where
  begun_ledger : (entry : EntryView) → Asks entry context.old now → opened_by entry ≡ []
      → spent_by entry ≡ [] → child_by entry ≡ [] → feed_by entry ≡ [] → drain_by entry ≡ [] →
      LedgerInvariant context.old now (entry ∷ []) empty_resources
  begun_ledger entry asks none spent_numbers no_child no_feed no_drain =
      ledger_more context.old context.old now [] entry empty_resources empty_resources (none_changes entry context.old now empty_resources asks none spent_numbers no_child no_feed no_drain) (record {
        entries_are = sym (append-nil context.old.entries);
        counted = omega arith;
        even = λ n. refl;
        once = λ n. omega arith;
        below = λ n le. refl;
        above = λ n lt. refl;
        next_grows = omega arith;
        long = refl;
        room_is = omega arith;
        children_are = refl;
        feeds_are = refl;
        drains_are = refl;
      })

  module _ {E H : Type 0} (allows : Allows H) (number_of : E → ℕ) where
    -- if the environment was returned
    pub invariant_begun : context.front ≡ [] → Asks (Environment (Ok context.pairs)) context.old now
        → RunInvariant allows number_of context (with_plan initial_plan) now empty_resources
    invariant_begun none asks = record {
      added = Environment (Ok context.pairs) ∷ [];
      ledger = begun_ledger (Environment (Ok context.pairs)) asks refl refl refl refl refl;
      few = environment_held context.bound (Environment (Ok context.pairs)) refl refl;
      kinds = refl;
      shaped = record { stack = refl; pipes = each_none (λ pipe place. is_some pipe ≡ is_some place) refl };
      begins = λ more. refl;
      starts = (_, ap (λ l. l ++ Environment (Ok context.pairs) ∷ []) (sym none));
      answers = λ more later. (tt, tt);
      sources = λ more later. record { stack = tt; pipes = each_none (λ place pipe. IsPair ((Environment (Ok context.pairs) ∷ []) ++ more) place pipe) tt };
      clean = (refl, tt);
    }

    -- if no request was made
    pub stopped_unasked : (items : List (Item E H)) (error : Error) → AddsNothing context.old now
        → IsAllocationFailure error → StopInvariant allows number_of context items now empty_resources error
    stopped_unasked items error nothing un = record {
      added = [];
      ledger = record {
        entries_are = nothing.entries_are ∙ sym (append-nil context.old.entries);
        counted = omega (arith, nothing.added_is);
        even = λ n. refl;
        once = λ n. omega arith;
        below = λ n le. refl;
        above = λ n lt. refl;
        next_grows = nothing.next_grows;
        long = refl;
        room_is = omega (arith, nothing.room_grows);
        children_are = refl;
        feeds_are = refl;
        drains_are = refl;
      };
      few = λ count. omega (arith, take_none count);
      answers = λ more later. tt;
      ended = unasked tt un;
    }

    -- if the request for the environment was refused
    pub stopped_begun : (items : List (Item E H)) (fault : Fault)
        → IsRefused (Environment (Err fault)) 0 fault context.old now
        → StopInvariant allows number_of context (AskEnvironment ∷ items) now empty_resources (System fault)
    stopped_begun items fault (inl asks) = record {
      added = Environment (Err fault) ∷ [];
      ledger = begun_ledger (Environment (Err fault)) asks refl refl refl refl refl;
      few = environment_held context.bound (Environment (Err fault)) refl refl;
      answers = λ more later. (tt, tt);
      ended = refused [] (Environment (Err fault)) fault tt refl;
    }
    stopped_begun items fault (inr nothing) = stopped_unasked (AskEnvironment ∷ items) (System fault) nothing.1 nothing.2

drains_grow : {E H : Type 0} (o : Option ℕ) (p : Plan E H)
    → (more : List (Item E H)) × ((with_drain o p).items ≡ p.items ++ more)
drains_grow None p = ([], sym (append-nil p.items))
drains_grow (Some place) p = (AskDrain place ∷ [], refl)

if_grow : {E H : Type 0} (o : Option ℕ) (p q : Plan E H) → q.items ≡ p.items ++ AskPipe ∷ []
    → (more : List (Item E H)) × ((if is_some o then p else q).items ≡ p.items ++ more)
if_grow None p q is = (AskPipe ∷ [], is)
if_grow (Some place) p q is = ([], sym (append-nil p.items))

action_grows : {E H : Type 0} (st : State E H) (act : Action E H)
    → (more : List (Item E H)) × ((advance st act).plan.items ≡ st.plan.items ++ more)
action_grows st (action.open_read path) = (_, refl)
action_grows st (action.create path) = (_, refl)
action_grows st action.pipe = (_, refl)
action_grows st action.input = (_, refl)
action_grows st (action.capture which) = if_grow (at_side st.plan.pipes which) st.plan _ refl
action_grows st (action.duplicate depth) = ([], sym (append-nil st.plan.items))
action_grows st (action.duplicate_capture which) = ([], sym (append-nil st.plan.items))
action_grows st (action.duplicate_caller_end end) = ([], sym (append-nil st.plan.items))
action_grows st (action.parent side.Out) = ([], sym (append-nil st.plan.items))
action_grows st (action.parent side.Err) = ([], sym (append-nil st.plan.items))
action_grows st action.close = ([], sym (append-nil st.plan.items))
action_grows st (action.spawn scope words ports) =
    let found = action.surroundings_by scope ports st.stack in
    (items_of found words, ap (λ p. p.items) (commanded_is found words st.plan))
action_grows st (action.feed bytes) = (_, refl)
action_grows st (action.finish which) = drains_grow (at_side st.plan.pipes which) st.plan

pub items_grow : {E H : Type 0} (st : State E H) (actions : List (Action E H))
    → (more : List (Item E H)) × ((after_actions st actions).plan.items ≡ st.plan.items ++ more)
items_grow st [] = ([], sym (append-nil st.plan.items))
items_grow st (act ∷ actions) =
    let one = action_grows st act in
    let rest = items_grow (advance st act) actions in
    (one.0 ++ rest.0, rest.1 ∙ ap (λ (l : List (Item _ _)). l ++ rest.0) one.1 ∙ append_assoc st.plan.items one.0 rest.0)

module _ {E H : Type 0} (allows : Allows H) (number_of : E → ℕ) (context : RunContext) where
  can : (st : State E H) (held : ResourcesView) (act : Action E H) → IsShaped st held
      → action.Needs number_of context.base context.bound st act → FindsItsEnds act held
  can st held (action.duplicate depth) shaped needs = omega (arith, shaped.stack, needs)
  can st held (action.duplicate_capture which) shaped needs = shaped.pipes which ∙ needs
  can st held act shaped needs = tt

  -- a run holds what a ready action needs
  pub can_do : (st : State E H) (now : JournalView) (held : ResourcesView) (act : Action E H)
      → RunInvariant allows number_of context st now held
      → IsReady number_of context.base context.bound st act
      → (pop_count act ≤ length held.stack) × FindsItsEnds act held
  can_do st now held act invariant ready = (omega (arith, ready.full, invariant.shaped.stack), can st held act invariant.shaped ready.needs)

  module _ (goal : State E H) (actions rest : List (Action E H)) (act : Action E H) (now : JournalView) (kept : ResourcesView) (stood : ReadyForActions allows number_of context goal actions now kept)
      (is : actions ≡ act ∷ rest) where
    ready_now : AreReady number_of context.base context.bound stood.state (act ∷ rest)
    ready_now = subst (λ (l : List (Action E H)). AreReady number_of context.base context.bound stood.state l) is stood.ready

    goal_now : after_actions stood.state (act ∷ rest) ≡ goal
    goal_now = ap (λ (l : List (Action E H)). after_actions stood.state l) (sym is) ∙ stood.goal_is

    pub can_now : (pop_count act ≤ length kept.stack) × FindsItsEnds act kept
    can_now = can_do stood.state now kept act stood.invariant ready_now.0

    pub goes_on : (next : JournalView) (other : ResourcesView)
        → ActionSucceeds allows number_of act now next kept other
        → ReadyForActions allows number_of context goal rest next other
    goes_on next other goes = record {
      state = advance stood.state act;
      invariant = goes context stood.state ready_now.0 stood.invariant;
      ready = ready_now.1;
      goal_is = goal_now;
    }

    pub memory_now : (next : JournalView) (error : Error) → AddsNothing now next → IsAllocationFailure error
        → StopInvariant allows number_of context goal.plan.items next kept error
    memory_now next error nothing un =
        let more = items_grow stood.state (act ∷ rest) in
        stops_unasked allows number_of context stood.state goal.plan.items more.0 now next kept error stood.invariant
        (ap (λ (x : State E H). x.plan.items) (sym goal_now) ∙ more.1) nothing un

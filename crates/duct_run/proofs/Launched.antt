-- A run of the actions of a whole tree is its start, of either kind.
use Rattle.std.proofs.Common.{◌≡◌, ℕ, ◌+◌, ◌*◌, List, [], ◌++◌, ap, refl, sym, ◌∙◌, arith, subst, false, None, Some, is_some, true, Option}
use Rattle.duct_run.proofs.Common.{nil_from_length, JournalView, Error, Memory, Action, Leads, State, with_plan, Allows, Refuses, StoppedWithCause, actions_of, ResourcesView, empty_resources, pipe_ends, Plan, initial_plan, with_drain, plan_of_subtree, with_reader, OpenOutputCapture, LeadToSomePlan, ActionsSucceed, ActionsFail, context_of, tail_for, tree_for, StartKind, Draining, Reading, RunInvariant, StartRefused, StartSucceeds, depth, TreeView}
use Rattle.duct_system.specs.declared.system.Side.TheVariants as side
use Rattle.duct_run.proofs.Ceiling.{ceiling, ends_below}
use Rattle.duct_run.proofs.Closes.{closes_none}
use Rattle.duct_run.proofs.Counted.{list_captures}
use Rattle.duct_run.proofs.Closing.{refused_closed}
use Rattle.duct_run.proofs.Joined.{tree_leads}
use Rattle.duct_run.proofs.Running.{stopped_unasked}
use Rattle.duct_run.proofs.Spawning.{plain_refused}
use Rattle.duct_run.proofs.Whole.{succeeded}

no_pair : (o : Option (ℕ × ℕ)) → is_some o ≡ false → pipe_ends o ≡ []
no_pair None is = refl
no_pair (Some pair) is = absurd (cc)

-- the drain workers of the open capture pipes are requested as the plan says
pub drained_items : {E H : Type 0} (plan : Plan E H)
    → (tail_for Draining plan).items ≡ (with_drain plan.pipes.err (with_drain plan.pipes.out plan)).items
drained_items plan = by plan.pipes.out plan.pipes.err
  where
    by : (out err : Option ℕ)
        → (with_drain err (record { items = (with_drain out plan).items; pipes = record plan.pipes { out = None } })).items ≡ (with_drain err (with_drain out plan)).items
    by None None = refl
    by None (Some place) = refl
    by (Some place) None = refl
    by (Some place) (Some other) = refl

pub read_items : {E H : Type 0} (plan : Plan E H)
    → (tail_for Reading plan).items ≡ (with_reader plan.pipes.out (with_drain plan.pipes.err plan)).items
read_items plan = by plan.pipes.out plan.pipes.err
  where
    by : (out err : Option ℕ)
        → (with_reader out (record { items = (with_drain err plan).items; pipes = record plan.pipes { err = None } })).items ≡ (with_reader out (with_drain err plan)).items
    by None None = refl
    by None (Some place) = refl
    by (Some place) None = refl
    by (Some place) (Some other) = refl

-- the plan still tells which capture pipes were open
pub drained_pipes : {E H : Type 0} (plan : Plan E H)
    → (is_some plan.pipes.out ≡ is_some (with_drain plan.pipes.err (with_drain plan.pipes.out plan)).pipes.out)
    × (is_some plan.pipes.err ≡ is_some (with_drain plan.pipes.err (with_drain plan.pipes.out plan)).pipes.err)
drained_pipes plan = by plan.pipes.out plan.pipes.err
  where
    by : (out err : Option ℕ) → (is_some plan.pipes.out ≡ is_some (with_drain err (with_drain out plan)).pipes.out) ×
        (is_some plan.pipes.err ≡ is_some (with_drain err (with_drain out plan)).pipes.err)
    by None None = (refl, refl)
    by None (Some place) = (refl, refl)
    by (Some place) None = (refl, refl)
    by (Some place) (Some other) = (refl, refl)

pub read_pipe : {E H : Type 0} (plan : Plan E H)
    → is_some plan.pipes.err ≡ is_some (with_reader plan.pipes.out (with_drain plan.pipes.err plan)).pipes.err
read_pipe plan = by plan.pipes.out plan.pipes.err
  where
    by : (out err : Option ℕ) → is_some plan.pipes.err ≡ is_some (with_reader out (with_drain err plan)).pipes.err
    by None None = refl
    by None (Some place) = refl
    by (Some place) None = refl
    by (Some place) (Some other) = refl

-- no capture pipe is open at the end of a start
pipes_closed : {E H : Type 0} (kind : StartKind) (plan : Plan E H)
    → ((tail_for kind plan).pipes.out ≡ None) × ((tail_for kind plan).pipes.err ≡ None)
pipes_closed Draining plan = (refl, refl)
pipes_closed Reading plan = (refl, refl)

module _ {E H : Type 0} (allows : Allows H) (number_of : E → ℕ) (kind : StartKind) (tree : TreeView E H) (actions : List (Action E H)) (same : actions ≡ actions_of (tree_for kind tree)) where
  abbrev goal : Plan E H
  goal = plan_of_subtree [] (tree_for kind tree) initial_plan

  -- the actions lead to the plan of the tree that is listed
  pub list_leads : Leads number_of (ceiling number_of tree) (2 * depth tree + 4) (with_plan initial_plan)
      actions (with_plan (plan_of_subtree [] (tree_for kind tree) initial_plan))
  list_leads = subst (λ (l : List (Action E H)). Leads number_of (ceiling number_of tree) (2 * depth tree + 4) (with_plan initial_plan) l (with_plan goal)) (sym same) (by kind)
    where
      by : (kind : StartKind) → Leads number_of (ceiling number_of tree) (2 * depth tree + 4) (with_plan initial_plan)
          (actions_of (tree_for kind tree)) (with_plan (plan_of_subtree [] (tree_for kind tree) initial_plan))
      by Draining = tree_leads number_of (ceiling number_of tree) tree (ends_below number_of tree)
      by Reading =
          let listed = tree_for Reading tree in
          let same_bound : 2 * depth listed + 4 ≡ 2 * depth tree + 4 = omega arith in
          subst (λ (bound : ℕ). Leads number_of (ceiling number_of tree) bound (with_plan initial_plan) (actions_of listed) (with_plan (plan_of_subtree [] listed initial_plan)))
          same_bound (tree_leads number_of (ceiling number_of tree) listed (ends_below number_of listed))

  pub some_leads : LeadToSomePlan number_of actions
  some_leads = (ceiling number_of tree, 2 * depth tree + 4, goal, list_leads)

  -- what holds if the actions and the tail ran
  pub invariant_launched : (old now : JournalView) (held : ResourcesView)
      (runs : ActionsSucceed allows number_of (tail_for kind) actions old now held)
      → RunInvariant allows number_of (context_of old (ceiling number_of tree) (2 * depth tree + 4) runs.0)
      (with_plan (tail_for kind (plan_of_subtree [] (tree_for kind tree) initial_plan))) now held
  invariant_launched old now held runs = runs.1 (ceiling number_of tree) (2 * depth tree + 4) goal list_leads

  -- what holds if they failed
  pub refused_launched : (refuses : Refuses H) (old now : JournalView) (held : ResourcesView) (e : Error)
      (refused : ActionsFail allows refuses number_of (tail_for kind) actions old now held e)
      → StoppedWithCause allows refuses number_of
      (context_of old (ceiling number_of tree) (2 * depth tree + 4) refused.0)
      (tail_for kind (plan_of_subtree [] (tree_for kind tree) initial_plan)).items now held e
  refused_launched refuses old now held e refused = refused.1 (ceiling number_of tree) (2 * depth tree + 4) goal list_leads

  -- the start succeeds, and no end is held
  pub launched : (plan : Plan E H)
      → (tail_for kind (plan_of_subtree [] (tree_for kind tree) initial_plan)).items ≡ plan.items
      → (old now : JournalView) (held : ResourcesView)
      → ActionsSucceed allows number_of (tail_for kind) actions old now held
      → StartSucceeds allows number_of tree plan old now
  launched plan items old now held runs =
      let context = context_of old (ceiling number_of tree) (2 * depth tree + 4) runs.0 in
      let invariant = invariant_launched old now held runs in
      let closed = pipes_closed kind goal in
      let stack = nil_from_length held.stack invariant.shaped.stack in
      let out = no_pair held.pipes.out (invariant.shaped.pipes side.Out ∙ ap (λ (o : Option ℕ). is_some o) closed.0) in
      let err = no_pair held.pipes.err (invariant.shaped.pipes side.Err ∙ ap (λ (o : Option ℕ). is_some o) closed.1) in
      succeeded allows number_of tree plan context (with_plan (tail_for kind goal)) old now held invariant refl refl refl items (λ i. stack i ++ (out i ++ err i))

  -- the actions of a start that reads open stdout's capture pipe
  pub reads_out : kind ≡ Reading → OpenOutputCapture number_of actions
  reads_out reads base bound plan leads =
      let is : plan ≡ goal = ap (λ (s : State E H). s.plan) (sym leads.is ∙ list_leads.is) in
      ap (λ (p : Plan E H). is_some p.pipes.out) is
      ∙ subst (λ k. is_some (plan_of_subtree [] (tree_for k tree) initial_plan).pipes.out ≡ true) (sym reads) (list_captures side.Out (tree_for Reading tree))

-- an allocation failed before any request was made
pub unasked_launch : {E H : Type 0} (allows : Allows H) (refuses : Refuses H) (number_of : E → ℕ)
    (tree : TreeView E H) (plan : Plan E H) (old : JournalView)
    → StartRefused allows refuses number_of tree plan old old Memory
unasked_launch allows refuses number_of tree plan old =
    let context = context_of old (ceiling number_of tree) (2 * depth tree + 4) [] in
    let nothing = stopped_unasked context old allows number_of plan.items Memory (record { entries_are = refl; added_is = refl; next_grows = omega arith; room_grows = omega arith }) tt in
    refused_closed allows refuses number_of context plan.items old old empty_resources Memory
    (plain_refused allows refuses number_of context plan.items old empty_resources Memory (λ no. no) nothing) [] (λ n. refl) refl (closes_none old) tree plan refl refl refl

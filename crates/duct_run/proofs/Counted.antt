-- A run starts what its tree contains: a child for each command, and a feed worker for each input.
-- A capture pipe is open if a node of the tree opens it.
use Rattle.std.proofs.Common.{◌≡◌, ℕ, ◌+◌, List, [], ◌∷◌, ◌++◌, length, refl, ap, sym, ◌∙◌, arith, Bool, true, false, Some, None, Ok, is_some, if◌then◌else◌, ◌||◌, map, Option}
use Rattle.std.specs.Prelude as std
use Rattle.duct_run.proofs.Common.{map-append, EntryView, Spawn, Feed, JournalView, children_in, feeds_in, trace, IsClean, Stream, In, Side, at_side, Action, ActionOf, NoneFinishes, Scope, State, PerStream, advance, after_actions, captures_in, surroundings_by, is_capture, with_capture_finished, with_plan, tail_for, tree_for, StartKind, Draining, Reading, capture_place, Plan, with_item, initial_plan, with_command, with_drain, is_canonical, with_opening, place_for, plan_of_subtree, with_reader, Allows, StreamSource, parents, nothing, slot, captured, lent, source_actions, with_input, with_output, actions_of_subtree, actions_of, depth_inside, ports_at, root_scope, root_sources, scope_if, sources_inside, actions_around, Surroundings, ResourcesView, list_of, resolved, resolved_all, scopes_from, ItemKind, of_spawn, of_feed, of_other, entry_kind, item_kind, spawns, feeds, spawns_asked, feeds_asked, Path, left_of, right_of, within, surroundings_on, RunContext, RunInvariant, RowOpening, opens_nothing, opens_input, opens_read, opens_create, opens_capture, row, Item, AskPipe, opening_of, step, ModifierView, TreeView, command, pipe, around, stdin_bytes, unchecked, items_if, items_of, commanded_is, with_items}
use Rattle.std.proofs.Math.Bool.{or_assoc, or-false}
use Rattle.duct_system.specs.declared.spec.Stream.TheVariants.{Out, Err}
use Rattle.duct_system.specs.declared.system.Side.TheVariants as side
use Rattle.duct_status.specs.ShapeView.{ShapeView, command_count, input_count}
use Rattle.duct_run.specs.Actions as action
use Rattle.duct_start.specs.ShapeOfTree.{shape_around, shape_of_tree}
use Rattle.duct_run.proofs.Ceiling.{ceiling, ends_below}
use Rattle.duct_run.proofs.Joined.{tree_leads}
use Rattle.duct_run.proofs.Resolved.{list_resolves}

-- entries without a fault started what their kinds say
children_counted : (added : List EntryView) → IsClean added
    → length (children_in added) ≡ spawns (map entry_kind (trace added))
children_counted [] clean = refl
children_counted (Spawn spec io (Ok number) ∷ added) clean = omega (arith, children_counted added clean.1)
children_counted (Spawn spec io (std.Err fault) ∷ added) clean = absurd (cc)
children_counted (entry ∷ added) clean = children_counted added clean.1

feeds_counted : (added : List EntryView) → IsClean added
    → length (feeds_in added) ≡ feeds (map entry_kind (trace added))
feeds_counted [] clean = refl
feeds_counted (Feed number bytes (Ok done) ∷ added) clean = omega (arith, feeds_counted added clean.1)
feeds_counted (Feed number bytes (std.Err fault) ∷ added) clean = absurd (cc)
feeds_counted (entry ∷ added) clean = feeds_counted added clean.1

-- a run holds as many children as the plan has spawns, and as many feed workers as it has feeds
pub counted : {E H : Type 0} (allows : Allows H) (number_of : E → ℕ) (context : RunContext)
    (state : State E H) (now : JournalView) (held : ResourcesView)
    → RunInvariant allows number_of context state now held
    → (length held.children ≡ spawns_asked state.plan.items)
    × (length held.feeds ≡ feeds_asked state.plan.items)
counted allows number_of context state now held invariant = (
  ap (λ l. length l) invariant.ledger.children_are ∙ children_counted invariant.added invariant.clean ∙ ap (λ l. spawns l) invariant.kinds,
  ap (λ l. length l) invariant.ledger.feeds_are ∙ feeds_counted invariant.added invariant.clean ∙ ap (λ l. feeds l) invariant.kinds,
)

spawns-append : (xs ys : List ItemKind) → spawns (xs ++ ys) ≡ spawns xs + spawns ys
spawns-append [] ys = omega arith
spawns-append (of_spawn ∷ xs) ys = omega (arith, spawns-append xs ys)
spawns-append (of_feed ∷ xs) ys = spawns-append xs ys
spawns-append (of_other ∷ xs) ys = spawns-append xs ys

feeds-append : (xs ys : List ItemKind) → feeds (xs ++ ys) ≡ feeds xs + feeds ys
feeds-append [] ys = omega arith
feeds-append (of_feed ∷ xs) ys = omega (arith, feeds-append xs ys)
feeds-append (of_spawn ∷ xs) ys = feeds-append xs ys
feeds-append (of_other ∷ xs) ys = feeds-append xs ys

none_fetches : {E : Type 0} (K : Type 0) (wire : StreamSource E) (stream : Stream)
    → NoneFinishes (source_actions {E = E} {K = K} wire stream)
none_fetches K nothing stream = tt
none_fetches K (slot depth) stream = tt
none_fetches K (captured which) stream = tt
none_fetches K (lent end) stream = tt
none_fetches K (parents In) stream = tt
none_fetches K (parents Out) In = tt
none_fetches K (parents Out) Out = tt
none_fetches K (parents Out) Err = tt
none_fetches K (parents Err) In = tt
none_fetches K (parents Err) Out = tt
none_fetches K (parents Err) Err = tt

-- the second list of items starts this many more children and feed workers than the first
record AddsKinds {E H : Type 0} (children workers : ℕ) (items more : List (Item E H)) : Type 0 where
  pub spawns : spawns_asked more ≡ spawns_asked items + children
  pub feeds : feeds_asked more ≡ feeds_asked items + workers

module _ {E H : Type 0} where
  adds_on : {a b c d : ℕ} {x y z : List (Item E H)} → AddsKinds a b x y → AddsKinds c d y z
      → AddsKinds (a + c) (b + d) x z
  adds_on one other = record { spawns = omega (arith, one.spawns, other.spawns); feeds = omega (arith, one.feeds, other.feeds) }

  adds_none : (items : List (Item E H)) → AddsKinds 0 0 items items
  adds_none items = record { spawns = omega arith; feeds = omega arith }

  adds_items : (items more : List (Item E H))
      → AddsKinds (spawns_asked more) (feeds_asked more) items (items ++ more)
  adds_items items more = record {
    spawns = ap (λ l. spawns l) (map-append (λ item. item_kind item) items more) ∙ spawns-append (map (λ item. item_kind item) items) (map (λ item. item_kind item) more);
    feeds = ap (λ l. feeds l) (map-append (λ item. item_kind item) items more) ∙ feeds-append (map (λ item. item_kind item) items) (map (λ item. item_kind item) more);
  }

  adds_if : (o : Option ℕ) (p q : Plan E H) → AddsKinds 0 0 p.items q.items
      → AddsKinds 0 0 p.items (if is_some o then p else q).items
  adds_if None p q adds = adds
  adds_if (Some place) p q adds = adds_none p.items

  adds_command : (b : Bool) (found : Surroundings E H) (words : List (List ℕ)) (items : List (Item E H))
      → AddsKinds 1 0 items (items ++ items_if b found words)
  adds_command true found words items = adds_items items (items_if true found words)
  adds_command false found words items = adds_items items (items_if false found words)

  adds_opening : (opens : RowOpening) (plan : Plan E H)
      → AddsKinds 0 0 plan.items (with_opening (opening_of opens) plan).items
  adds_opening opens_nothing plan = adds_none plan.items
  adds_opening (opens_input bytes) plan = adds_items plan.items _
  adds_opening (opens_read path) plan = adds_items plan.items _
  adds_opening (opens_create path) plan = adds_items plan.items _
  adds_opening (opens_capture which) plan = adds_if (at_side plan.pipes which) plan _ (adds_items plan.items _)

  adds_as : {a b c d : ℕ} {x y z : List (Item E H)} → a ≡ c → b ≡ d → z ≡ y → AddsKinds a b x y
      → AddsKinds c d x z
  adds_as one other is adds = record { spawns = ap (λ l. spawns_asked l) is ∙ omega (arith, adds.spawns, one); feeds = ap (λ l. feeds_asked l) is ∙ omega (arith, adds.feeds, other) }

  closes_none : (modifier : ModifierView E H) (place : ℕ) (shape : ShapeView)
      → command_count shape + spawns_asked ((step modifier).closing place) ≡ command_count
      (shape_around modifier shape)
  closes_none (stdin_bytes bytes) place shape = omega arith
  closes_none unchecked place shape = omega arith
  closes_none modifier place shape = omega arith

  closes_feeds : (modifier : ModifierView E H) (place : ℕ) (shape : ShapeView)
      → input_count shape + feeds_asked ((step modifier).closing place) ≡ input_count
      (shape_around modifier shape)
  closes_feeds (stdin_bytes bytes) place shape = omega arith
  closes_feeds unchecked place shape = omega arith
  closes_feeds modifier place shape = omega arith

  adds_tree : (up : Path E H) (tree : TreeView E H) (plan : Plan E H)
      → AddsKinds (command_count (shape_of_tree tree))
      (input_count (shape_of_tree tree)) plan.items (plan_of_subtree up tree plan).items
  adds_tree up (command words) plan =
      let found = surroundings_on up in
      adds_as refl refl (ap (λ (p : Plan E H). p.items) (commanded_is found words plan)) (adds_command (is_canonical found words) found words plan.items)
  adds_tree up (pipe left right) plan =
      let place = length plan.items in
      let first = plan_of_subtree (left_of place ∷ up) left (with_item AskPipe plan) in
      adds_as (omega arith) (omega arith) refl
      (adds_on (adds_items plan.items (AskPipe ∷ [])) (adds_on (adds_tree (left_of place ∷ up) left (with_item AskPipe plan)) (adds_tree (right_of place ∷ up) right first)))
  adds_tree up (around modifier inner) plan =
      let place = place_for (step modifier).opening plan in
      let before = with_opening (step modifier).opening plan in
      let inside = plan_of_subtree (within place modifier ∷ up) inner before in
      let closing = (step modifier).closing place in
      let shape = shape_of_tree inner in
      adds_as (omega (arith, closes_none modifier place shape)) (omega (arith, closes_feeds modifier place shape)) refl
      (adds_on (adds_opening (row modifier).opens plan) (adds_on (adds_tree (within place modifier ∷ up) inner before) (adds_items inside.items closing)))

  adds_drains : (o : Option ℕ) (plan : Plan E H) → AddsKinds 0 0 plan.items (with_drain o plan).items
  adds_drains None plan = adds_none plan.items
  adds_drains (Some place) plan = adds_items plan.items _

  adds_reads : (o : Option ℕ) (plan : Plan E H) → AddsKinds 0 0 plan.items (with_reader o plan).items
  adds_reads None plan = adds_none plan.items
  adds_reads (Some place) plan = adds_items plan.items _

  -- the plan after a tree starts a child for each command, and a feed worker for each input
  planned_counts : (tree : TreeView E H)
      → (spawns_asked (plan_of_subtree [] tree initial_plan).items ≡ command_count (shape_of_tree tree))
      × (feeds_asked (plan_of_subtree [] tree initial_plan).items ≡ input_count (shape_of_tree tree))
  planned_counts tree = let adds = adds_tree [] tree initial_plan in (omega (arith, adds.spawns), omega (arith, adds.feeds))

  -- how a start ends starts no child and no feed worker
  adds_tail : (kind : StartKind) (plan : Plan E H) → AddsKinds 0 0 plan.items (tail_for kind plan).items
  adds_tail Draining plan = adds_on (adds_drains plan.pipes.out plan) (adds_drains plan.pipes.err (with_capture_finished side.Out plan))
  adds_tail Reading plan = adds_on (adds_drains plan.pipes.err plan) (adds_reads plan.pipes.out (with_capture_finished side.Err plan))

  -- the tree that is listed for a start has the shape of its tree
  pub same_shape : (kind : StartKind) (tree : TreeView E H) → shape_of_tree (tree_for kind tree) ≡ shape_of_tree tree
  same_shape Draining tree = refl
  same_shape Reading tree = refl

  -- a run that has made all requests of such a start of a tree holds a child for each command and a
  -- feed worker for each input
  pub started_counts : (allows : Allows H) (number_of : E → ℕ) (context : RunContext) (now : JournalView)
      (held : ResourcesView) (kind : StartKind) (tree : TreeView E H)
      → RunInvariant allows number_of context (with_plan (tail_for kind (plan_of_subtree [] (tree_for kind tree) initial_plan))) now held
      → (length held.children ≡ command_count (shape_of_tree tree))
      × (length held.feeds ≡ input_count (shape_of_tree tree))
  started_counts allows number_of context now held kind tree invariant =
      let plan = plan_of_subtree [] (tree_for kind tree) initial_plan in
      let all = counted allows number_of context (with_plan (tail_for kind plan)) now held invariant in
      let tail = adds_tail kind plan in
      let here = planned_counts (tree_for kind tree) in
      let shape = same_shape kind tree in
      (omega (arith, all.0, tail.spawns, here.0, ap (λ s. command_count s) shape), omega (arith, all.1, tail.feeds, here.1, ap (λ s. input_count s) shape))

  if_of : {X : Type 0} (f : Plan E H → X) (b : Bool) (p q : Plan E H) → f p ≡ f q
      → f (if b then p else q) ≡ f q
  if_of f true p q same = same
  if_of f false p q same = refl

  opens_there : (f : Plan E H → Option ℕ) (o : Option ℕ) (p q : Plan E H) → f p ≡ o
      → is_some (f q) ≡ true → is_some (f (if is_some o then p else q)) ≡ (is_some o || true)
  opens_there f None p q is there = there
  opens_there f (Some place) p q is there = ap (λ o. is_some o) is

  opens_other : (f : Plan E H → Option ℕ) (b : Bool) (p q : Plan E H) → f q ≡ f p
      → is_some (f (if b then p else q)) ≡ (is_some (f p) || false)
  opens_other f b p q same = ap (λ o. is_some o) (if_of f b p q (sym same) ∙ same) ∙ sym (or-false (is_some (f p)))

  opens_spawn : (f : Plan E H → Option ℕ) (found : Surroundings E H) (words : List (List ℕ))
      (plan : Plan E H) → ((items : List (Item E H)) → f (with_items items plan) ≡ f plan) →
      is_some (f (with_command found words plan)) ≡ (is_some (f plan) || false)
  opens_spawn f found words plan same = ap (λ p. is_some (f p)) (commanded_is found words plan) ∙ ap (λ o. is_some o) (same (items_of found words)) ∙ sym (or-false (is_some (f plan)))

  -- a capture pipe is open after one action exactly if it was open before or the action opens it
  action_opens : (which : Side) (state : State E H) (act : Action E H) → NoneFinishes (act ∷ []) →
      is_some (capture_place which (advance state act).plan) ≡ (is_some (capture_place which state.plan) || is_capture which act)
  action_opens side.Out state (action.capture side.Out) none = opens_there (λ p. p.pipes.out) state.plan.pipes.out state.plan _ refl refl
  action_opens side.Err state (action.capture side.Err) none = opens_there (λ p. p.pipes.err) state.plan.pipes.err state.plan _ refl refl
  action_opens side.Out state (action.capture side.Err) none = opens_other (λ p. p.pipes.out) (is_some state.plan.pipes.err) state.plan _ refl
  action_opens side.Err state (action.capture side.Out) none = opens_other (λ p. p.pipes.err) (is_some state.plan.pipes.out) state.plan _ refl
  action_opens which state (action.spawn scope words ports) none = opens_spawn (λ p. at_side p.pipes which) (surroundings_by scope ports state.stack) words state.plan (λ items. refl)
  action_opens which state (action.finish other) none = absurd none
  action_opens which state (action.parent side.Out) none = sym (or-false (is_some (at_side state.plan.pipes which)))
  action_opens which state (action.parent side.Err) none = sym (or-false (is_some (at_side state.plan.pipes which)))
  action_opens side.Out state act none = sym (or-false (is_some state.plan.pipes.out))
  action_opens side.Err state act none = sym (or-false (is_some state.plan.pipes.err))

  none_first : (act : Action E H) (actions : List (Action E H)) → NoneFinishes (act ∷ actions)
      → NoneFinishes (act ∷ [])
  none_first (action.finish which) actions none = none
  none_first act actions none = tt

  none_rest : (act : Action E H) (actions : List (Action E H)) → NoneFinishes (act ∷ actions)
      → NoneFinishes actions
  none_rest (action.finish which) actions none = absurd none
  none_rest act actions none = none

  -- a capture pipe is open after some actions exactly if it was open before or one of them opens it
  pub actions_open : (which : Side) (state : State E H) (actions : List (Action E H))
      → NoneFinishes actions
      → is_some (capture_place which (after_actions state actions).plan)
      ≡ (is_some (capture_place which state.plan) || captures_in which actions)
  actions_open which state [] none = sym (or-false (is_some (capture_place which state.plan)))
  actions_open which state (act ∷ actions) none =
      actions_open which (advance state act) actions (none_rest act actions none)
      ∙ ap (λ b. b || captures_in which actions) (action_opens which state act (none_first act actions none))
      ∙ or_assoc (is_some (capture_place which state.plan)) (is_capture which act) (captures_in which actions)

  resolved_same : (which : Side) (scopes : List (Scope E H)) (act : ActionOf E ℕ)
      → is_capture which (resolved scopes act) ≡ is_capture which act
  resolved_same side.Out scopes (action.capture side.Out) = refl
  resolved_same side.Out scopes (action.capture side.Err) = refl
  resolved_same side.Err scopes (action.capture side.Out) = refl
  resolved_same side.Err scopes (action.capture side.Err) = refl
  resolved_same side.Out scopes act = refl
  resolved_same side.Err scopes act = refl

  -- whether actions open a capture pipe does not depend on the scopes of their commands
  pub resolved_captures : (which : Side) (scopes : List (Scope E H)) (actions : List (ActionOf E ℕ))
      → captures_in which (resolved_all scopes actions) ≡ captures_in which actions
  resolved_captures which scopes [] = refl
  resolved_captures which scopes (act ∷ actions) = λ i. resolved_same which scopes act i || resolved_captures which scopes actions i

  none_append : (xs ys : List (Action E H)) → NoneFinishes xs → NoneFinishes ys
      → NoneFinishes (xs ++ ys)
  none_append [] ys none more = more
  none_append (action.finish which ∷ xs) ys none more = absurd none
  none_append (act ∷ xs) ys none more = none_append xs ys none more

  none_wrapped : (opens : RowOpening) (inside : List (Action E H)) → NoneFinishes inside
      → NoneFinishes (actions_around opens inside)
  none_wrapped opens_nothing inside none = none
  none_wrapped (opens_input bytes) inside none = none_append inside (action.close ∷ action.feed bytes ∷ []) none tt
  none_wrapped (opens_read path) inside none = none_append inside (action.close ∷ []) none tt
  none_wrapped (opens_create path) inside none = none_append inside (action.close ∷ []) none tt
  none_wrapped (opens_capture which) inside none = none

  none_flat : (tree : TreeView E H) (s : Scope E H) (w : PerStream (StreamSource E)) (n : ℕ)
      → NoneFinishes (actions_of_subtree s w tree n)
  none_flat (command words) s w n =
      let input : List (Action E H) = source_actions w.input In in
      let output : List (Action E H) = source_actions w.output Out in
      let error : List (Action E H) = source_actions w.error Err in
      let last : List (Action E H) = action.spawn s words (ports_at w) ∷ [] in
      none_append input (output ++ (error ++ last)) (none_fetches (Scope E H) w.input In)
      (none_append output (error ++ last) (none_fetches (Scope E H) w.output Out) (none_append error last (none_fetches (Scope E H) w.error Err) tt))
  none_flat (pipe left right) s w n =
      let up = with_output (slot (n + 1)) w in
      let down = with_input (slot n) w in
      let first : List (Action E H) = actions_of_subtree s up left (n + 2) in
      let second : List (Action E H) = actions_of_subtree s down right (n + 1) in
      none_append first (action.close ∷ (second ++ action.close ∷ [])) (none_flat left s up (n + 2)) (none_append second (action.close ∷ []) (none_flat right s down (n + 1)) tt)
  none_flat (around modifier inner) s w n =
      let r = row modifier in
      none_wrapped r.opens _ (none_flat inner (scope_if r.says s) (sources_inside r n w) (depth_inside r.opens n))

  -- the actions of a tree finish no capture pipe
  pub flat_none : (tree : TreeView E H) → NoneFinishes (actions_of tree)
  flat_none tree = none_flat tree root_scope root_sources 0

  -- a capture pipe is open after a tree exactly if the actions of the tree open it
  pub flat_captures : (which : Side) (tree : TreeView E H)
      → is_some (capture_place which (plan_of_subtree [] tree initial_plan)) ≡ captures_in which (actions_of tree)
  flat_captures which tree =
      let number_of : E → ℕ = λ end. 0 in
      let leads = tree_leads number_of (ceiling number_of tree) tree (ends_below number_of tree) in
      ap (λ (state : State E H). is_some (capture_place which state.plan)) (sym leads.is) ∙ actions_open which (with_plan initial_plan) (actions_of tree) (flat_none tree)
      ∙ ap (λ b. b || captures_in which (actions_of tree)) (none_begun which)
    where
      none_begun : (which : Side) → is_some (capture_place which (initial_plan {E = E} {H = H})) ≡ false
      none_begun side.Out = refl
      none_begun side.Err = refl

  -- the same for its actions with scopes by index
  pub list_captures : (which : Side) (tree : TreeView E H)
      → is_some (capture_place which (plan_of_subtree [] tree initial_plan))
      ≡ captures_in which (list_of tree).actions
  list_captures which tree =
      let scopes = scopes_from (root_scope ∷ []) (list_of tree).scopes in
      flat_captures which tree ∙ ap (λ l. captures_in which l) (sym (list_resolves tree)) ∙ resolved_captures which scopes (list_of tree).actions

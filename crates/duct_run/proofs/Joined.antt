-- The flat plan of a tree leads to its plan, and leaves the stack as it was.
use Rattle.std.proofs.Common.{◌≡◌, ℕ, ◌+◌, ◌*◌, ◌≤◌, ◌<◌, List, [], ◌∷◌, ◌++◌, length, refl, ap, sym, ◌∙◌, arith, subst, Bool, Some, None, true, false, All, Option}
use Rattle.duct_run.proofs.Common.{append-nil, All-append, All-nil, All-cons, All-head, All-tail, Stream, In, Side, Action, Scope, State, PerStream, IsReady, AreBelow, Leads, advance, with_plan, StreamSource, slot, depth_inside, actions_of_subtree, actions_of, opened_source, scope_if, root_scope, root_sources, with_input, with_output, on_side, source_inside, sources_inside, actions_around, SourceLeadsTo, is_in, is_out, is_err, is_nothing, is_slot, is_captured, is_lent, SourcesFit, Surroundings, Target, ReaderAt, WriterAt, FileAt, root_surroundings, target_of, resolved_turn, option_or, Plan, with_item, with_closing, initial_plan, with_opening, place_for, plan_of_subtree, depth, ends_in, modifier_ends, opens_depth, said_ends, route_ends, RowOpening, SettingView, Route, opens_nothing, opens_input, opens_read, opens_create, opens_capture, as_outside, to_nothing, to_lent, to_opened, says_folder, says_change, says_hook, row, Item, AskPipe, closing_of, opened_target, opening_of, step_of_setting, step_if_setting, stream_on, turn_of, AskFeed, AskOpenRead, AskCreate, left_step, right_step, step, TreeView, command, pipe, around}
use Rattle.duct_system.specs.declared.system.Side.TheVariants as side
use Rattle.duct_run.specs.Actions as action
use Rattle.duct_run.proofs.PlanInward.{surroundings_within, plan_inward}
use Rattle.duct_run.proofs.Inward.{joined}
use Rattle.duct_run.proofs.Keeping.{keeps, keeps_same, keeps_capture, capture_opens}
use Rattle.duct_run.proofs.Stacks.{level_top, leads_none, leads_cons, leads_append}
use Rattle.duct_run.proofs.Fetched.{Grows, grows_by, grows_on, grows_plan, fits_grow, command_leads}

closed_none : {E H : Type 0} (p : Plan E H) → with_closing [] p ≡ p
closed_none p = λ i. record { items = append-nil p.items i; pipes = p.pipes }

module _ {E : Type 0} (P : E → Type 0) where
  pub all_front : (xs ys : List E) → All P (xs ++ ys) → All P xs
  all_front [] ys all = All-nil P
  all_front (x ∷ xs) ys all = All-cons P x xs (All-head P x (xs ++ ys) all) (all_front xs ys (All-tail P x (xs ++ ys) all))

  pub all_back : (xs ys : List E) → All P (xs ++ ys) → All P ys
  all_back [] ys all = all
  all_back (x ∷ xs) ys all = all_back xs ys (All-tail P x (xs ++ ys) all)

module _ {E : Type 0} where
  -- the stack inside a node that opens this at this place
  abbrev stack_in : RowOpening → ℕ → List (Target E) → List (Target E)
  stack_in opens_nothing place stack = stack
  stack_in (opens_input bytes) place stack = ReaderAt place ∷ WriterAt place ∷ stack
  stack_in (opens_read path) place stack = FileAt place ∷ stack
  stack_in (opens_create path) place stack = FileAt place ∷ stack
  stack_in (opens_capture which) place stack = stack

  length_in : (opens : RowOpening) (place : ℕ) (stack : List (Target E)) (n : ℕ) → n ≡ length stack
      → depth_inside opens n ≡ length (stack_in opens place stack)
  length_in opens_nothing place stack n is = is
  length_in (opens_input bytes) place stack n is = omega (arith, is)
  length_in (opens_read path) place stack n is = omega (arith, is)
  length_in (opens_create path) place stack n is = omega (arith, is)
  length_in (opens_capture which) place stack n is = is

deep : (opens : RowOpening) (n : ℕ) → depth_inside opens n ≤ n + 2 * opens_depth opens
deep opens_nothing n = omega arith
deep (opens_input bytes) n = omega arith
deep (opens_read path) n = omega arith
deep (opens_create path) n = omega arith
deep (opens_capture which) n = omega arith

module _ {E H : Type 0} (number_of : E → ℕ) (base bound : ℕ) where
  abbrev at_st : List (Target E) → Plan E H → State E H
  at_st stack p = record { stack = stack; plan = p }

  -- an action that pops nothing
  easy : (state : State E H) (x : Action E H) → action.pop_count x ≡ 0
      → action.Needs number_of base bound state x → length (advance state x).stack ≤ bound
      → IsReady number_of base bound state x
  easy state x none needs low = record { full = omega (arith, none); needs = needs; low = low }

  close_ready : (x : Target E) (stack : List (Target E)) (p : Plan E H) → length stack ≤ bound
      → IsReady number_of base bound (at_st (x ∷ stack) p) action.close
  close_ready x stack p low = record { full = omega arith; needs = tt; low = low }

  close_leads : (x : Target E) (stack : List (Target E)) (p : Plan E H) → length stack ≤ bound
      → Leads number_of base bound (at_st (x ∷ stack) p) (action.close ∷ []) (at_st stack p)
  close_leads x stack p low = leads_cons number_of base bound _ _ action.close [] (close_ready x stack p low) (leads_none number_of base bound _)

  unclosed : (state : State E H) (actions : List (Action E H)) (stack : List (Target E))
      (p : Plan E H) → Leads number_of base bound state actions (at_st stack p) →
      Leads number_of base bound state actions (at_st stack (with_closing [] p))
  unclosed state actions stack p leads = subst (λ (q : Plan E H). Leads number_of base bound state actions (at_st stack q)) (sym (closed_none p)) leads

  -- a file that is on the stack while the inner actions are performed
  held_leads : (get : Action E H) (item : Item E H) (x : Target E) (inside : List (Action E H))
      (stack : List (Target E)) (p q : Plan E H) →
      action.pop_count get ≡ 0 → action.Needs number_of base bound (at_st stack p) get → advance (at_st stack p) get ≡ at_st (x ∷ stack) (with_item item p) → length stack + 1 ≤ bound →
      Leads number_of base bound (at_st (x ∷ stack) (with_item item p)) inside (at_st (x ∷ stack) q) →
      Leads number_of base bound (at_st stack p) (get ∷ (inside ++ action.close ∷ [])) (at_st stack (with_closing [] q))
  held_leads get item x inside stack p q none needs is low leads =
      let all = leads_append number_of base bound _ _ _ inside (action.close ∷ []) leads (close_leads x stack q (omega (arith, low))) in
      unclosed _ _ stack q
      (leads_cons number_of base bound _ _ get _ (easy (at_st stack p) get none needs (omega (arith, ap (λ (s : State E H). length s.stack) is, low)))
      (subst (λ (s : State E H). Leads number_of base bound s (inside ++ action.close ∷ []) (at_st stack q)) (sym is) all))

  -- other wires, inside a node that sets no folder, variables or hooks
  rewired : (state : State E H) (s : Scope E H) (w more : PerStream (StreamSource E)) (found inner : Surroundings E H)
      → SourcesFit number_of base state s w found →
      inner.folder ≡ found.folder → inner.changes ≡ found.changes → inner.hooks ≡ found.hooks ++ [] →
      SourceLeadsTo number_of base state true more.input inner.input → SourceLeadsTo number_of base state false more.output inner.output → SourceLeadsTo number_of base state false more.error inner.error →
      SourcesFit number_of base state s more inner
  rewired state s w more found inner fits folder changes hooks input output error = record {
    folder = folder ∙ fits.folder;
    changes = changes ∙ fits.changes;
    hooks = hooks ∙ append-nil found.hooks ∙ fits.hooks;
    input = input;
    output = output;
    error = error;
    below = fits.below;
  }

  -- what was on the stack is still there inside the node
  opens_grow : (opens : RowOpening) (stack : List (Target E)) (p : Plan E H)
      → Grows (at_st stack p)
      (at_st (stack_in opens (place_for (opening_of {E = E} {H = H} opens) p) stack) (with_opening (opening_of opens) p))
  opens_grow opens_nothing stack p = grows_plan stack p p (keeps_same p p refl)
  opens_grow (opens_input bytes) stack p =
      let k = length p.items in
      let p1 = with_item AskPipe p in
      grows_on (grows_by stack (WriterAt k) p p1 (keeps_same p p1 refl)) (grows_by (WriterAt k ∷ stack) (ReaderAt k) p1 p1 (keeps_same p1 p1 refl))
  opens_grow (opens_read path) stack p = grows_by stack (FileAt (length p.items)) p _ (keeps_same p _ refl)
  opens_grow (opens_create path) stack p = grows_by stack (FileAt (length p.items)) p _ (keeps_same p _ refl)
  opens_grow (opens_capture which) stack p = grows_plan stack p _ (keeps_capture which p)

  -- the wire to what a node opens leads there
  opened_fits : (b : Bool) (opens : RowOpening) (stack : List (Target E)) (p : Plan E H) (n : ℕ)
      → n ≡ length stack
      → SourceLeadsTo number_of base
      (at_st (stack_in opens (place_for (opening_of {E = E} {H = H} opens) p) stack) (with_opening (opening_of opens) p))
      b (opened_source opens n) (opened_target opens (place_for (opening_of {E = E} {H = H} opens) p))
  opened_fits b opens_nothing stack p n is = is_nothing b
  opened_fits b (opens_input bytes) stack p n is =
      let k = length p.items in
      is_slot b (n + 1) (ReaderAt k) tt (level_top (WriterAt k ∷ stack) (ReaderAt k) (n + 1) (omega (arith, is)))
  opened_fits b (opens_read path) stack p n is = is_slot b n (FileAt (length p.items)) tt (level_top stack (FileAt (length p.items)) n is)
  opened_fits b (opens_create path) stack p n is = is_slot b n (FileAt (length p.items)) tt (level_top stack (FileAt (length p.items)) n is)
  opened_fits b (opens_capture which) stack p n is = is_captured b which _ (capture_opens which p)

  -- the source of a stream inside a node leads to where the stream goes there, if those outside it do
  source_fits : {K : Type 0} (b : Bool) (outer : K → StreamSource E) (stream : K → Stream) (way : Route K E)
      (state : State E H) (found : Surroundings E H) (source : StreamSource E) (opens : RowOpening) (place : ℕ)
      → ((k : K) → SourceLeadsTo number_of base state b (outer k) (target_of found (stream k)))
      → All (λ end. number_of end < base) (route_ends way)
      → SourceLeadsTo number_of base state b source (opened_target opens place)
      → SourceLeadsTo number_of base state b (source_inside outer way source) (resolved_turn (turn_of stream opens place way) (target_of found))
  source_fits b outer stream (as_outside k) state found source opens place fits below there = fits k
  source_fits b outer stream to_nothing state found source opens place fits below there = is_nothing b
  source_fits b outer stream (to_lent end) state found source opens place fits below there = is_lent b end (All-head (λ end. number_of end < base) end [] below)
  source_fits b outer stream to_opened state found source opens place fits below there = there

  -- the sources of stdout and stderr
  side_fits : (state : State E H) (s : Scope E H) (w : PerStream (StreamSource E)) (found : Surroundings E H)
      → SourcesFit number_of base state s w found
      → (which : Side) → SourceLeadsTo number_of base state false (on_side w which) (target_of found (stream_on which))
  side_fits state s w found fits side.Out = fits.output
  side_fits state s w found fits side.Err = fits.error

  hooks_below : (says : Option (SettingView E H)) → All (λ end. number_of end < base) (said_ends says)
      → AreBelow number_of base (step_if_setting says).hooks
  hooks_below None below = All-nil _
  hooks_below (Some (says_folder path)) below = All-nil _
  hooks_below (Some (says_change change)) below = All-nil _
  hooks_below (Some (says_hook hook ends)) below =
      All-cons (λ pair. All (λ end. number_of end < base) pair.1) (hook, ends) [] below (All-nil (λ pair. All (λ end. number_of end < base) pair.1))

  -- these wires fit inside a node that sets this
  scope_fits : (says : Option (SettingView E H)) (state : State E H) (s : Scope E H)
      (w more : PerStream (StreamSource E)) (found : Surroundings E H) (input output error : Target E)
      → SourcesFit number_of base state s w found → AreBelow number_of base (step_if_setting says).hooks
      → SourceLeadsTo number_of base state true more.input input
      → SourceLeadsTo number_of base state false more.output output
      → SourceLeadsTo number_of base state false more.error error
      → SourcesFit number_of base state (scope_if says s) more (record {
        folder = option_or (step_if_setting says).folder found.folder;
        changes = (step_if_setting says).changes ++ found.changes;
        input = input;
        output = output;
        error = error;
        hooks = found.hooks ++ (step_if_setting says).hooks;
      })
  scope_fits None state s w more found input output error fits below one two three =
      rewired state s w more found _ fits refl refl refl one two three
  scope_fits (Some says) state s w more found input output error fits below one two three = record {
    folder = ap (option_or (step_of_setting says).folder) fits.folder;
    changes = ap (λ changes. (step_of_setting says).changes ++ changes) fits.changes;
    hooks = ap (λ hooks. hooks ++ (step_of_setting says).hooks) fits.hooks;
    input = one;
    output = two;
    error = three;
    below = All-append (λ hook. All (λ end. number_of end < base) hook.1) s.hooks (step_of_setting says).hooks fits.below below;
  }

  -- the actions of a node around those of its inner expression
  wraps : (opens : RowOpening) (stack : List (Target E)) (p q : Plan E H) (inside : List (Action E H))
      (n : ℕ) → n ≡ length stack → n + 3 ≤ bound
      → Leads number_of base bound
      (at_st (stack_in opens (place_for (opening_of {E = E} {H = H} opens) p) stack) (with_opening (opening_of opens) p)) inside
      (at_st (stack_in opens (place_for (opening_of {E = E} {H = H} opens) p) stack) q)
      → Leads number_of base bound (at_st stack p) (actions_around opens inside)
      (at_st stack (with_closing (closing_of opens (place_for (opening_of {E = E} {H = H} opens) p)) q))
  wraps opens_nothing stack p q inside n is low leads = unclosed _ _ stack q leads
  wraps (opens_input bytes) stack p q inside n is low leads =
      let k = length p.items in
      let r : Target E = ReaderAt k in
      let x : Target E = WriterAt k in
      let q1 = with_item (AskFeed k bytes) q in
      leads_cons number_of base bound (at_st stack p) (at_st stack q1) action.input _ (easy (at_st stack p) action.input refl tt (omega (arith, is, low)))
      (leads_append number_of base bound _ (at_st (r ∷ x ∷ stack) q) _ _ _ leads
      (leads_cons number_of base bound _ (at_st stack q1) action.close _ (close_ready r (x ∷ stack) q (omega (arith, is, low)))
      (leads_cons number_of base bound (at_st (x ∷ stack) q) (at_st stack q1) (action.feed bytes) [] (record { full = omega arith; needs = tt; low = omega (arith, is, low) }) (leads_none number_of base bound _))))
  wraps (opens_read path) stack p q inside n is low leads =
      held_leads (action.open_read path) (AskOpenRead path) (FileAt (length p.items)) inside stack p q refl tt refl (omega (arith, is, low)) leads
  wraps (opens_create path) stack p q inside n is low leads =
      held_leads (action.create path) (AskCreate path) (FileAt (length p.items)) inside stack p q refl tt refl (omega (arith, is, low)) leads
  wraps (opens_capture which) stack p q inside n is low leads =
      unclosed _ _ stack q (leads_cons number_of base bound (at_st stack p) _ (action.capture which) _ (easy (at_st stack p) (action.capture which) refl tt (omega (arith, is, low))) leads)

  pub flat_leads : (tree : TreeView E H) (s : Scope E H) (w : PerStream (StreamSource E)) (found : Surroundings E H)
      (stack : List (Target E)) (p : Plan E H) (n : ℕ) → n ≡ length stack
      → All (λ end. number_of end < base) (ends_in tree)
      → SourcesFit number_of base (record { stack = stack; plan = p }) s w found
      → n + (2 * depth tree + 3) < bound
      → Leads number_of base bound (record { stack = stack; plan = p }) (actions_of_subtree s w tree n)
      (record { stack = stack; plan = plan_inward found tree p })
  flat_leads (command words) s w found stack p n is older fits low = command_leads number_of base bound (at_st stack p) s w found words fits (omega (arith, is, low))
  flat_leads (pipe left right) s w found stack p n is older fits low =
      let k = length p.items in
      let r : Target E = ReaderAt k in
      let x : Target E = WriterAt k in
      let p1 = with_item AskPipe p in
      let found1 = surroundings_within left_step k found in
      let found2 = surroundings_within right_step k found in
      let p2 = plan_inward found1 left p1 in
      let p3 = plan_inward found2 right p2 in
      let g0 : Grows (at_st stack p) (at_st (r ∷ stack) p1) = grows_by stack r p p1 (keeps_same p p1 refl) in
      let g1 : Grows (at_st stack p) (at_st (x ∷ r ∷ stack) p1) = grows_on g0 (grows_by (r ∷ stack) x p1 p1 (keeps_same p1 p1 refl)) in
      let g2 : Grows (at_st stack p) (at_st (r ∷ stack) p2) = grows_on g0 (grows_plan (r ∷ stack) p1 p2 (keeps left found1 p1)) in
      let fits1 = fits_grow number_of base (at_st stack p) (at_st (x ∷ r ∷ stack) p1) s w found g1 fits in
      let fits2 = fits_grow number_of base (at_st stack p) (at_st (r ∷ stack) p2) s w found g2 fits in
      let up = rewired (at_st (x ∷ r ∷ stack) p1) s w (with_output (slot (n + 1)) w) found found1 fits1 refl refl refl fits1.input (is_slot false (n + 1) x tt (level_top (r ∷ stack) x (n + 1) (omega (arith, is)))) fits1.error in
      let down = rewired (at_st (r ∷ stack) p2) s w (with_input (slot n) w) found found2 fits2 refl refl refl (is_slot true n r tt (level_top stack r n is)) fits2.output fits2.error in
      leads_cons number_of base bound (at_st stack p) (at_st stack p3) action.pipe _ (easy (at_st stack p) action.pipe refl tt (omega (arith, is, low)))
      (leads_append number_of base bound _ (at_st (x ∷ r ∷ stack) p2) _ _ _
      (flat_leads left s _ found1 (x ∷ r ∷ stack) p1 (n + 2) (omega (arith, is)) (all_front (λ end. number_of end < base) (ends_in left) (ends_in right) older) up (omega (arith, is, low)))
      (leads_cons number_of base bound _ (at_st stack p3) action.close _ (close_ready x (r ∷ stack) p2 (omega (arith, is, low)))
      (leads_append number_of base bound _ (at_st (r ∷ stack) p3) _ _ _
      (flat_leads right s _ found2 (r ∷ stack) p2 (n + 1) (omega (arith, is)) (all_back (λ end. number_of end < base) (ends_in left) (ends_in right) older) down (omega (arith, is, low)))
      (close_leads r stack p3 (omega (arith, is, low))))))
  flat_leads (around modifier inner) s w found stack p n is older fits low =
      let r = row modifier in
      let place = place_for (opening_of {E = E} {H = H} r.opens) p in
      let p1 = with_opening (opening_of r.opens) p in
      let tops = stack_in r.opens place stack in
      let found1 = surroundings_within (step modifier) place found in
      let Below : E → Type 0 = λ end. number_of end < base in
      let here = all_front Below (modifier_ends modifier) (ends_in inner) older in
      let other = all_back Below (route_ends r.input) _ here in
      let last = all_back Below (route_ends r.output) _ other in
      let fits1 = fits_grow number_of base (at_st stack p) (at_st tops p1) s w found (opens_grow r.opens stack p) fits in
      let sides = side_fits (at_st tops p1) s w found fits1 in
      let input = source_fits true (λ stream. w.input) (λ stream. In) r.input (at_st tops p1) found (opened_source r.opens n) r.opens place (λ stream. fits1.input) (all_front Below (route_ends r.input) _ here) (opened_fits true r.opens stack p n is) in
      let output = source_fits false (on_side w) stream_on r.output (at_st tops p1) found (opened_source r.opens n) r.opens place sides (all_front Below (route_ends r.output) _ other) (opened_fits false r.opens stack p n is) in
      let error = source_fits false (on_side w) stream_on r.error (at_st tops p1) found (opened_source r.opens n) r.opens place sides (all_front Below (route_ends r.error) _ last) (opened_fits false r.opens stack p n is) in
      let fit = scope_fits r.says (at_st tops p1) s w (sources_inside r n w) found _ _ _ fits1 (hooks_below r.says (all_back Below (route_ends r.error) _ last)) input output error in
      wraps r.opens stack p (plan_inward found1 inner p1) _ n is (omega (arith, low))
      (flat_leads inner (scope_if r.says s) (sources_inside r n w) found1 tops p1 (depth_inside r.opens n) (length_in r.opens place stack n is)
      (all_back Below (modifier_ends modifier) (ends_in inner) older) fit (omega (arith, low, deep r.opens n)))

-- the actions of a tree lead to its plan without the last requests for capture pipes, and leave
-- nothing on the stack, which never holds more than twice the depth of the tree plus four ends
pub tree_leads : {E H : Type 0} (number_of : E → ℕ) (base : ℕ) (tree : TreeView E H)
    → All (λ end. number_of end < base) (ends_in tree)
    → Leads number_of base (2 * depth tree + 4) (with_plan initial_plan) (actions_of tree)
    (with_plan (plan_of_subtree [] tree initial_plan))
tree_leads {E} {H} number_of base tree older =
    let bound = 2 * depth tree + 4 in
    let fits : SourcesFit {E = E} {H = H} number_of base (with_plan initial_plan) root_scope root_sources root_surroundings =
    record { folder = refl; changes = refl; hooks = refl; input = is_in; output = is_out; error = is_err; below = All-nil _ } in
    subst (λ p. Leads number_of base bound (with_plan initial_plan) (actions_of tree) (with_plan p)) (sym (joined tree [] initial_plan))
    (flat_leads number_of base bound tree root_scope root_sources root_surroundings [] initial_plan 0 refl older fits (omega arith))

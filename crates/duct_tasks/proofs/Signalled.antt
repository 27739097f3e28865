-- Children that are given orders, and are polled in between.
use Rattle.std.specs.Prelude.{ℕ, pos, zero, suc, Bool, true, false, List, [], ◌∷◌, ◌++◌, All, length, map, is_some, unwrap_or, MatchBool, MatchOption, Ok, Err, Some, None}
use Rattle.std.specs.Result.{result_and}
use Rattle.std.proofs.Common.{◌≡◌, ◌<◌, ◌∙◌, arith, refl, ap, sym, subst, inl, inr, option_map, Option}
use Rattle.duct_tasks.proofs.Common.{All-cons, All-head, All-nil, All-tail, Signal, shape_view, RunningView, SystemViews, AllAsked, AllZip, PolledOnce, Bytes, HasOrders, IsSignalled, RunsAlike, ShapeView, AreSignalled}
use Rattle.duct_system.specs.Child.{Answer, ChildView, IsUnasked, Obeyed, OrdersChild, PollsChild, child_after, child_ordered, ending_after}
use Rattle.duct_system.specs.Job.{JobView}
use Rattle.duct_system.specs.declared.system.ExitStatus.{ExitStatus}
use Rattle.duct_system.specs.declared.system.Order.{Order}
use Rattle.duct_running.specs.Ordered.{OrderedIfDue, leftmost}
use Rattle.duct_running.specs.Polled.{ChangedAt}
use Rattle.duct_tasks.specs.Groups.{AllGiven, Given, IsGiven, Tries, leaders, processes_of}
use Rattle.duct_tasks.specs.Until.{IsSignalledBy}

-- the leftmost fault after one more result from the left
pub leftmost_next : (answer : Obeyed) (answers : List Obeyed)
    → result_and answer (leftmost answers) ≡ leftmost (answer ∷ answers)
leftmost_next (Ok done) answers = refl
leftmost_next (Err fault) answers = refl

-- what holds of children and is left by polls
module _ (P : ChildView → Type 0)
    (left : (answer : Answer) (child : ChildView) → P child → P (child_after answer child))
    (says : ℕ → Answer → Type 0) where
  left_if_due : (before after : ChildView) (ending : Option ExitStatus)
      → MatchOption ending ((answer : Answer) × PollsChild says before answer after)
      (λ status. after ≡ before)
      → P before → P after
  left_if_due before after None polled is =
      subst (λ (c : ChildView). P c) (sym polled.1.after_is) (left polled.0 before is)
  left_if_due before after (Some status) same is = subst (λ (c : ChildView). P c) (sym same) is

  all_left : (befores afters : List ChildView) → AllAsked says befores afters → All P befores → All
      P afters
  all_left [] [] all holds = All-nil P
  all_left [] (after ∷ afters) all holds = absurd all
  all_left (before ∷ befores) [] all holds = absurd all
  all_left (before ∷ befores) (after ∷ afters) all holds =
      All-cons P after afters (left_if_due before after before.ending all.0
      (All-head P before befores holds))
      (all_left befores afters all.1 (All-tail P before befores holds))

module _ (may : ℕ → Order → Bool → Obeyed → Type 0) (order : Order) where
  -- the children from this place on were given the order like this, and those before it are as they
  -- were
  abbrev pub GivenFrom : ℕ → List ChildView → List Given → List ChildView → Type 0
  GivenFrom zero befores givens afters = AllGiven may order befores givens afters
  GivenFrom (suc at) [] givens afters = ⊥
  GivenFrom (suc at) (before ∷ befores) givens [] = ⊥
  GivenFrom (suc at) (before ∷ befores) givens (after ∷ afters) =
      (after ≡ before) × GivenFrom at befores givens afters

  unchanged : (at : ℕ) (children : List ChildView) → at < length children
      → ChangedAt (λ child. IsGiven may order child (Some true, Ok tt)) at children children
  unchanged at [] some = absurd (omega (arith, some))
  unchanged zero (child ∷ children) some = ((refl, refl), refl)
  unchanged (suc at) (child ∷ children) some = (refl, unchanged at children (omega (arith, some)))

  -- a child whose group was sent the signal is as before
  pub given_none : (led : Option Bool) (at : ℕ) (children : List ChildView)
      → unwrap_or led false ≡ true → at < length children
      → ChangedAt (λ child. IsGiven may order child (led, Ok tt)) at children children
  given_none None at children sent some = absurd (cc)
  given_none (Some false) at children sent some = absurd (cc)
  given_none (Some true) at children sent some = unchanged at children some

  -- another one was given the order
  pub given_at : (led : Option Bool) (answer : Obeyed) (at : ℕ) (befores afters : List ChildView)
      → unwrap_or led false ≡ false
      → ChangedAt (λ child. OrderedIfDue may order child answer) at befores afters
      → ChangedAt (λ child. IsGiven may order child (led, answer)) at befores afters
  given_at None answer at befores afters unsent changed = changed
  given_at (Some false) answer at befores afters unsent changed = changed
  given_at (Some true) answer at befores afters unsent changed = absurd (cc)

  -- from the end on no child was given the order
  pub none_given : (children : List ChildView) → GivenFrom (length children) children [] children
  none_given [] = tt
  none_given (child ∷ children) = (refl, none_given children)

  -- the child before was given the order
  pub one_more_given : (at : ℕ) (befores : List ChildView) (givens : List Given)
      (between afters : List ChildView) (given : Given) → GivenFrom (suc at) befores givens between
      → ChangedAt (λ before. IsGiven may order before given) at between afters
      → GivenFrom at befores (given ∷ givens) afters
  one_more_given at [] givens between afters given so_far changed = absurd so_far
  one_more_given at (before ∷ befores) givens [] afters given so_far changed = absurd so_far
  one_more_given zero (before ∷ befores) givens (b ∷ between) [] given so_far changed =
      absurd changed
  one_more_given zero (before ∷ befores) givens (b ∷ between) (after ∷ afters) given so_far changed
      = (
        subst (λ (c : ChildView). IsGiven may order c given after) so_far.0 changed.0,
        subst (λ (cs : List ChildView). AllGiven may order befores givens cs) (sym changed.1)
            so_far.1,
      )
  one_more_given (suc at) (before ∷ befores) givens (b ∷ between) [] given so_far changed =
      absurd changed
  one_more_given (suc at) (before ∷ befores) givens (b ∷ between) (after ∷ afters) given so_far
      changed = (
        changed.0 ∙ so_far.0,
        one_more_given at befores givens between afters given so_far.1
            changed.1,
      )

module _ (may : ℕ → Order → Bool → Obeyed → Type 0) where
  sent : (before after : ChildView) (answer : Obeyed) → before.orders ≡ []
      → OrdersChild may (Signal (pos 15)) before answer after → IsSignalled may after
  sent before after answer none (inl (heard, given)) =
      subst (λ (c : ChildView). IsSignalled may c) (sym given)
      (inl (
        answer,
        heard,
        ap (λ (l : List (Order × Obeyed)). l ++ (Signal (pos 15), answer) ∷ [])
            none,
      ))
  sent before after answer none (inr (heard, same, refused)) =
      subst (λ (c : ChildView). IsSignalled may c) (sym same)
      (inr (inl (
        subst (λ (a : Obeyed). may before.number (Signal (pos 15)) false a) refused heard,
        none,
      )))

  sent_if_due : (before after : ChildView) (answer : Obeyed) (ending : Option ExitStatus)
      (leads : Bool) → before.ending ≡ ending → before.orders ≡ []
      → MatchOption ending (OrdersChild may (Signal (pos 15)) before answer after)
      (λ status. MatchBool leads (OrdersChild may (Signal (pos 15)) before answer after) ((answer ≡ Ok tt) × (after ≡ before)))
      → IsSignalled may after
  sent_if_due before after answer None leads is none orders = sent before after answer none orders
  sent_if_due before after answer (Some status) true is none orders = sent before after answer none orders
  sent_if_due before after answer (Some status) false is none done =
      subst (λ (c : ChildView). IsSignalled may c) (sym done.1)
      (inr (inr (ap (λ (e : Option ExitStatus). is_some e) is, none)))

  sent_by : (before after : ChildView) (given : Given) → before.orders ≡ []
      → IsGiven may (Signal (pos 15)) before given after → IsSignalledBy may given.0 after
  sent_by before after (None, answer) none orders = sent_if_due before after answer before.ending
      before.leads refl none orders
  sent_by before after (Some false, answer) none orders = sent_if_due before after answer
      before.ending before.leads refl none orders
  sent_by before after (Some true, answer) none same = ap (λ (c : ChildView). c.orders) same.1 ∙ none

  -- the signal is sent to children with no order, or to their groups
  pub all_sent : (befores : List ChildView) (givens : List Given) (afters : List ChildView)
      → All (λ c. c.orders ≡ []) befores → AllGiven may (Signal (pos 15)) befores givens afters
      → AllZip (IsSignalledBy may) (map (λ g. g.0) givens) afters
  all_sent [] [] [] none all = tt
  all_sent [] [] (after ∷ afters) none all = absurd all
  all_sent [] (given ∷ givens) afters none all = absurd all
  all_sent (before ∷ befores) [] afters none all = absurd all
  all_sent (before ∷ befores) (given ∷ givens) [] none all = absurd all
  all_sent (before ∷ befores) (given ∷ givens) (after ∷ afters) none all = (
    sent_by before after given (All-head (λ c. c.orders ≡ []) before befores none) all.0,
    all_sent befores givens afters (All-tail (λ c. c.orders ≡ []) before befores none) all.1,
  )

  -- a poll leaves it so
  kept : (ending : Option ExitStatus) (answer : Answer) (child : ChildView) → child.ending ≡ ending
      → IsSignalled may child → IsSignalled may (child_after answer child)
  kept ending answer child is (inl p) = inl p
  kept ending answer child is (inr (inl p)) = inr (inl p)
  kept None answer child is (inr (inr p)) = absurd (let some = p.0 in cc)
  kept (Some status) answer child is (inr (inr p)) =
      inr (inr (ap (λ (e : Option ExitStatus). is_some (ending_after e answer)) is, p.1))

  kept_by : (led : Option Bool) (answer : Answer) (child : ChildView) → IsSignalledBy may led child
      → IsSignalledBy may led (child_after answer child)
  kept_by None answer child is = kept child.ending answer child refl is
  kept_by (Some false) answer child is = kept child.ending answer child refl is
  kept_by (Some true) answer child none = none

  -- polls leave it so
  pub signalled_left : (says : ℕ → Answer → Type 0) (tries : Tries) (befores afters : List ChildView)
      → AllAsked says befores afters → AllZip (IsSignalledBy may) tries befores
      → AllZip (IsSignalledBy may) tries afters
  signalled_left says [] [] [] all holds = tt
  signalled_left says [] [] (after ∷ afters) all holds = absurd all
  signalled_left says [] (before ∷ befores) afters all holds = absurd holds
  signalled_left says (led ∷ tries) [] afters all holds = absurd holds
  signalled_left says (led ∷ tries) (before ∷ befores) [] all holds = absurd all
  signalled_left says (led ∷ tries) (before ∷ befores) (after ∷ afters) all holds = (
    left_if_due (λ c. IsSignalledBy may led c) (kept_by led) says before after before.ending all.0
        holds.0,
    signalled_left says tries befores afters all.1 holds.1,
  )

  -- a fact of a child that no order changes
  module _ (fact : ChildView → ℕ)
      (stays : (order : Order) (answer : Obeyed) (child : ChildView)
      → fact (child_ordered order answer child) ≡ fact child) (order : Order) where
    fact_noted : (before after : ChildView) (answer : Obeyed)
        → OrdersChild may order before answer after → fact after ≡ fact before
    fact_noted before after answer (inl p) = ap fact p.1 ∙ stays order answer before
    fact_noted before after answer (inr p) = ap fact p.1

    fact_ordered : (before after : ChildView) (answer : Obeyed) (ending : Option ExitStatus)
        (leads : Bool) → MatchOption ending (OrdersChild may order before answer after)
        (λ status. MatchBool leads (OrdersChild may order before answer after) ((answer ≡ Ok tt) × (after ≡ before)))
        → fact after ≡ fact before
    fact_ordered before after answer None leads p = fact_noted before after answer p
    fact_ordered before after answer (Some status) true p = fact_noted before after answer p
    fact_ordered before after answer (Some status) false done = ap fact done.1

    fact_given : (before after : ChildView) (given : Given) → IsGiven may order before given after
        → fact after ≡ fact before
    fact_given before after (None, answer) p = fact_ordered before after answer before.ending before.leads p
    fact_given before after (Some false, answer) p = fact_ordered before after answer before.ending
        before.leads p
    fact_given before after (Some true, answer) p = ap fact p.1

    facts_given : (befores : List ChildView) (givens : List Given) (afters : List ChildView)
        → AllGiven may order befores givens afters → map fact afters ≡ map fact befores
    facts_given [] [] [] all = refl
    facts_given [] [] (after ∷ afters) all = absurd all
    facts_given [] (given ∷ givens) afters all = absurd all
    facts_given (before ∷ befores) [] afters all = absurd all
    facts_given (before ∷ befores) (given ∷ givens) [] all = absurd all
    facts_given (before ∷ befores) (given ∷ givens) (after ∷ afters) all =
        λ i. fact_given before after given all.0 i ∷ facts_given befores givens afters all.1 i

    -- the same of the children from a place on
    pub facts_from : (at : ℕ) (befores : List ChildView) (givens : List Given)
        (afters : List ChildView) → GivenFrom may order at befores givens afters
        → map fact afters ≡ map fact befores
    facts_from zero befores givens afters all = facts_given befores givens afters all
    facts_from (suc at) [] givens afters all = absurd all
    facts_from (suc at) (before ∷ befores) givens [] all = absurd all
    facts_from (suc at) (before ∷ befores) givens (after ∷ afters) all =
        λ i. fact (all.0 i) ∷ facts_from at befores givens afters all.1 i

module _ {S E C F D : Type 0} (views : SystemViews S E C F D (Unit {0}) Bytes) where
  -- children that were never asked for anything have none
  pub no_orders : (children : List C) → All (λ c. IsUnasked (views.child c)) children
      → All (λ c. c.orders ≡ []) (map views.child children)
  no_orders [] all = All-nil (λ c. c.orders ≡ [])
  no_orders (child ∷ children) all =
      All-cons (λ c. c.orders ≡ []) (views.child child) (map views.child children)
      (All-head (λ c. IsUnasked (views.child c)) child children all).unordered
      (no_orders children (All-tail (λ c. IsUnasked (views.child c)) child children all))

  process_asked : (before after : ChildView) (ending : Option ExitStatus)
      → MatchOption ending ((answer : Answer) × PollsChild views.may_answer before answer after)
      (λ status. after ≡ before)
      → after.process ≡ before.process
  process_asked before after None polled = ap (λ (c : ChildView). c.process) polled.1.after_is
  process_asked before after (Some status) same = ap (λ (c : ChildView). c.process) same

  processes_asked : (befores afters : List ChildView) → AllAsked views.may_answer befores afters
      → map (λ c. c.process) afters ≡ map (λ c. c.process) befores
  processes_asked [] [] all = refl
  processes_asked [] (after ∷ afters) all = absurd all
  processes_asked (before ∷ befores) [] all = absurd all
  processes_asked (before ∷ befores) (after ∷ afters) all =
      λ i. process_asked before after before.ending all.0 i ∷ processes_asked befores afters all.1 i

  -- polls leave the ids of the processes
  pub processes_left : (before after : RunningView C F D) → PolledOnce views before after
      → processes_of views after ≡ processes_of views before
  processes_left before after polls = processes_asked (map views.child before.children)
      (map views.child after.children) polls.children

  -- polls leave the signals
  pub signals_left : (tries : Tries) (before after : RunningView C F D) → PolledOnce views before
      after
      → AreSignalled views tries before → AreSignalled views tries after
  signals_left tries before after polls = signalled_left views.may_obey views.may_answer tries
      (map views.child before.children) (map views.child after.children) polls.children

  -- polls leave the orders
  pub orders_left : (sent : Bool) (before after : RunningView C F D) → PolledOnce views before after
      → HasOrders views sent before → HasOrders views sent after
  orders_left false before after polls = all_left (λ c. c.orders ≡ []) (λ answer child none. none)
      views.may_answer (map views.child before.children) (map views.child after.children)
      polls.children
  orders_left true before after polls = λ were. record {
    tries = were.tries;
    led = were.led ∙ ap (λ (s : ShapeView). leaders s) (sym polls.shape);
    signalled = signals_left were.tries before after polls were.signalled;
  }

  -- an order leaves the shape and the numbers of all that runs, and the ids of the processes
  module _ (order : Order) (before after : RunningView C F D) (givens : List Given)
      (all : AllGiven views.may_obey order (map views.child before.children) givens
      (map views.child after.children)) where
    pub seen_after : after.shape ≡ before.shape → after.feeds ≡ before.feeds
        → after.output ≡ before.output → after.error ≡ before.error → RunsAlike views before after
    seen_after shape feeds output error = λ i. (
      shape_view (shape i),
      record {
        children = facts_given views.may_obey (λ c. c.number) (λ o a c. refl) order
            (map views.child before.children) givens (map views.child after.children) all i;
        feeds = map (λ (f : JobView _). f.number) (map views.feed (feeds i));
        output = option_map (λ (d : JobView _). d.number) (option_map views.drain (output i));
        error = option_map (λ (d : JobView _). d.number) (option_map views.drain (error i));
      },
    )

    pub processes_after : processes_of views after ≡ processes_of views before
    processes_after = facts_given views.may_obey (λ c. c.process) (λ o a c. refl) order
        (map views.child before.children) givens (map views.child after.children) all

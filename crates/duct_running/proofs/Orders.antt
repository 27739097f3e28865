-- One order to a child, and the orders to all children in turn, from the last one on.
use Rattle.duct_running.proofs.Common.{MatchBool, MatchOption, ChildView, Obeyed, OrdersChild, JobView, Latest, is_due, is_word_due, Word, OrderedIfDue, AllOrdered, leftmost, ChangedAt, Bytes, stored_latest}
use Rattle.std.specs.Prelude.{ℕ, zero, suc, Bool, true, false, List, [], ◌∷◌, map, length, get_or, set, Ok, Err, Some, None}
use Rattle.std.specs.Result.{result_and}
use Rattle.std.proofs.Common.{◌≡◌, ◌<◌, refl, ap, sym, ◌∙◌, subst, ◌⊎◌, inl, inr, Option}
use Rattle.duct_system.specs.declared.system.ExitStatus.{ExitStatus}
use Rattle.duct_system.specs.declared.system.Order.{Order}
use Rattle.duct_running.proofs.Polls.{said, said_at, set_at, kept_at, same_at, within, no_ending, left_alone}

module _ (may : ℕ → Order → Bool → Obeyed → Type 0) (order : Order) where
  -- an order changes no word
  word_kept : (before after : ChildView) (answer : Obeyed)
      → OrdersChild may order before answer after → said after ≡ said before
  word_kept before after answer (inl (heard, given)) = ap (λ (c : ChildView). said c) given
  word_kept before after answer (inr (heard, unasked, none)) = ap (λ (c : ChildView). said c) unasked

  -- an order changes no id
  pub id_kept : (before after : ChildView) (answer : Obeyed)
      → OrdersChild may order before answer after → after.process ≡ before.process
  id_kept before after answer (inl (heard, given)) = ap (λ (c : ChildView). c.process) given
  id_kept before after answer (inr (heard, unasked, none)) = ap (λ (c : ChildView). c.process) unasked

  -- a child that has not ended, or leads a group, was given the order
  ordered_once : (before after : ChildView) (answer : Obeyed) (ending : Option ExitStatus)
      (leads : Bool) → OrdersChild may order before answer after → (ending ≡ None) ⊎ (leads ≡ true)
      → MatchOption ending (OrdersChild may order before answer after) (λ status. MatchBool leads (OrdersChild may order before answer after) ((answer ≡ Ok tt) × (after ≡ before)))
  ordered_once before after answer None leads orders why = orders
  ordered_once before after answer (Some status) true orders why = orders
  ordered_once before after answer (Some status) false orders (inl none) = absurd (cc)
  ordered_once before after answer (Some status) false orders (inr led) = absurd (cc)

  -- why a child is given an order, by its word or by its view
  reached : (child : ChildView) {due : Bool} → is_word_due (Some (said child)) ≡ due
      → (due ≡ true) ⊎ (child.leads ≡ true) → (child.ending ≡ None) ⊎ (child.leads ≡ true)
  reached child is (inl due) = inl (no_ending child.ending child.last (is ∙ due))
  reached child is (inr led) = inr led

  -- a child that leads no group is as before, and the result is Ok
  stays : (child : ChildView) (answer : Obeyed) (leads : Bool) → answer ≡ Ok tt → leads ≡ false
      → MatchBool leads (OrdersChild may order child answer child) ((answer ≡ Ok tt) × (child ≡ child))
  stays child answer false is not = (is, refl)
  stays child answer true is not = absurd (cc)

  -- so is one that has ended and leads none
  left_once : (child : ChildView) → is_word_due (Some (said child)) ≡ false → child.leads ≡ false
      → OrderedIfDue may order child (Ok tt) child
  left_once child over not =
      left_alone child.ending child.last (OrdersChild may order child (Ok tt) child) _ over
      (stays child (Ok tt) child.leads refl not)

  -- the same, by the words that a core keeps of the children, with these workers
  module _ {C : Type 0} (view : C → ChildView) (feeds : List (JobView (Unit {0}))) (output error : Option (JobView Bytes)) where
    abbrev stored : List C → Latest
    stored items = stored_latest (map view items) feeds output error

    due_is : (items : List C) (at : ℕ) (child : C) (kept : Latest) → at < length items
        → child ≡ get_or items at child → kept ≡ stored items
        → is_word_due (Some (said (view child))) ≡ is_due kept at
    due_is items at child kept low found is =
        ap (λ (word : Option Word). is_word_due word) (sym (said_at view items at child low found))
        ∙ ap (λ (w : Latest). is_due w at) (sym is)

    -- a child that has ended and leads no group is as before, and the result is Ok
    pub unordered_in : (items children : List C) (at : ℕ) (child : C) (kept : Latest)
        → items ≡ children → kept ≡ stored items → at < length children → is_due kept at ≡ false
        → child ≡ get_or items at child → (view child).leads ≡ false
        → ChangedAt (λ before. OrderedIfDue may order before (Ok tt)) at (map view children) (map view children)
    unordered_in items children at child kept same is low over found alone =
        let low' = within view items children at same low in
        subst (λ (cs : List C). ChangedAt (λ b. OrderedIfDue may order b (Ok tt)) at (map view cs) (map view cs)) same
        (kept_at view (λ b. OrderedIfDue may order b (Ok tt)) items at child low' found
        (left_once (view child) (due_is items at child kept low' found is ∙ over) alone))

    -- a child that has not ended, or leads a group, is given the order
    pub ordered_in : (items children : List C) (at : ℕ) (before after : C) (answer : Obeyed)
        (kept : Latest) → items ≡ children
        → kept ≡ stored items → at < length children
        → (is_due kept at ≡ true) ⊎ ((view before).leads ≡ true)
        → before ≡ get_or items at before → OrdersChild may order (view before) answer (view after)
        → ChangedAt (λ before. OrderedIfDue may order before answer) at (map view children) (map view (set items at after))
    ordered_in items children at before after answer kept same is low why found orders =
        let low' = within view items children at same low in
        let due' = due_is items at before kept low' found is in
        subst (λ (cs : List C). ChangedAt (λ b. OrderedIfDue may order b answer) at (map view cs) (map view (set items at after))) same
        (set_at view (λ b. OrderedIfDue may order b answer) items at before after low' found
        (ordered_once (view before) (view after) answer (view before).ending (view before).leads orders (reached (view before) due' why)))

    -- the words that the core keeps are still those that are stored
    pub words_in_order : (items children : List C) (at : ℕ) (before after : C) (answer : Obeyed)
        (kept : Latest) → items ≡ children
        → kept ≡ stored items → at < length children
        → before ≡ get_or items at before → OrdersChild may order (view before) answer (view after) → kept ≡ stored (set items at after)
    words_in_order items children at before after answer kept same is low found orders =
        is ∙ ap (λ (ws : List Word). record (stored items) { commands = ws })
        (sym (same_at view (λ c. said c) items at before after (within view items children at same low) found (word_kept (view before) (view after) answer orders)))

  -- the children from this place on were given the order, with these results, and those before it
  -- are as they were
  abbrev pub OrderedFrom : ℕ → List ChildView → List Obeyed → List ChildView → Type 0
  OrderedFrom zero befores answers afters = AllOrdered may order befores answers afters
  OrderedFrom (suc at) [] answers afters = ⊥
  OrderedFrom (suc at) (before ∷ befores) answers [] = ⊥
  OrderedFrom (suc at) (before ∷ befores) answers (after ∷ afters) = (after ≡ before) × OrderedFrom at befores answers afters

  -- from the end on no child was given the order
  pub none_ordered : (children : List ChildView) → OrderedFrom (length children) children [] children
  none_ordered [] = tt
  none_ordered (child ∷ children) = (refl, none_ordered children)

  -- the child before was given the order
  pub one_more_ordered : (at : ℕ) (befores : List ChildView) (answers : List Obeyed)
      (between afters : List ChildView) (answer : Obeyed) → OrderedFrom (suc at) befores answers between
      → ChangedAt (λ before. OrderedIfDue may order before answer) at between afters → OrderedFrom at befores (answer ∷ answers) afters
  one_more_ordered at [] answers between afters answer so_far changed = absurd so_far
  one_more_ordered at (before ∷ befores) answers [] afters answer so_far changed = absurd so_far
  one_more_ordered zero (before ∷ befores) answers (b ∷ between) [] answer so_far changed = absurd changed
  one_more_ordered zero (before ∷ befores) answers (b ∷ between) (after ∷ afters) answer so_far changed = (
    subst (λ (c : ChildView). OrderedIfDue may order c answer after) so_far.0 changed.0,
    subst (λ (cs : List ChildView). AllOrdered may order befores answers cs) (sym changed.1) so_far.1,
  )
  one_more_ordered (suc at) (before ∷ befores) answers (b ∷ between) [] answer so_far changed = absurd changed
  one_more_ordered (suc at) (before ∷ befores) answers (b ∷ between) (after ∷ afters) answer so_far changed =
      (changed.0 ∙ so_far.0, one_more_ordered at befores answers between afters answer so_far.1 changed.1)

-- the leftmost fault after one more result from the left
pub leftmost_next : (answer : Obeyed) (answers : List Obeyed)
    → result_and answer (leftmost answers) ≡ leftmost (answer ∷ answers)
leftmost_next (Ok done) answers = refl
leftmost_next (Err fault) answers = refl

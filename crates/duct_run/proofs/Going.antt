-- Each kind of action succeeds or fails.
use Rattle.std.proofs.Common.{◌≡◌, ◌≢◌, ℕ, ◌+◌, ◌<◌, ◌≤◌, List, [], ◌∷◌, ◌++◌, length, refl, ap, sym, ◌∙◌, arith, append_assoc, length-append, subst, inl, inr, suc, zero, map, Some, None, Ok, Err, is_some, reverse, slice_get, slice_index, true, drop, unwrap_or, Option, Result}
use Rattle.duct_run.proofs.Common.{append-nil, cases_lt, EntryView, Pipe, OpenRead, Create, Duplicate, Parent, Feed, Close, JournalView, Adds, AddsNothing, Asks, GetsEnd, GetsEnds, GivesEnds, IsRefused, opened_by, spent_by, count_of, Opened, origin, origin_before, child_by, feed_by, drain_by, trace, fault_of, is_traced, Error, System, Fault, Side, at_side, PerSide, Action, State, IsReady, IsWriter, advance, at_depth, pipe_place, end_at, Allows, resources_with_stack, Pairwise, Target, Parents, Nothing, ReaderAt, WriterAt, FileAt, Lends, ResourcesView, open_ends, ends_of_pipes, pipe_ends, entry_kind, item_kind, AnswersUnder, AreFresh, RunContext, IsEarly, IsFrom, IsLater, IsShaped, IsPair, HasOrigins, RunInvariant, IsAllocationFailure, ActionSucceeds, ActionFails, Item, AskPipe, AskOpenRead, AskCreate, AskFeed, is_itself, other_than, count_other, count_same, count-cons, count-append, count-reverse, origin_stays, origin-more, origin_lent, end_at_seam}
use Rattle.duct_system.specs.declared.spec.Stream.TheVariants as stream
use Rattle.duct_system.specs.declared.system.Side.TheVariants as side
use Rattle.duct_run.specs.Actions as action
use Rattle.duct_run.proofs.Fresh.{fresh_one, fresh_two, fresh_none, later_more}
use Rattle.duct_run.proofs.CapturePipes.{counts_with}
use Rattle.duct_run.proofs.Sources.{duplicate_first, duplicated, pair_level, pair_popped, surely}
use Rattle.duct_run.proofs.RunInvariant.{Changes, as_many, invariant_more, stops_more, stops_unasked, sources_now, few_now, few_of}

-- what is held, with these ends pushed onto the stack
abbrev pub on : List ℕ → ResourcesView → ResourcesView
on tops held = record held { stack = tops ++ held.stack }

pub adds_as : (entry : EntryView) (a b c d : ℕ) (now next : JournalView)
    → Adds entry a b now next → c ≡ a → d ≡ b → Adds entry c d now next
adds_as entry a b c d now next adds more less = record {
  entries_are = adds.entries_are;
  added_is = adds.added_is;
  next_grows = adds.next_grows;
  room_is = omega (arith, adds.room_is, more, less);
}

-- as many ends are pushed onto the one stack as onto the other
pushed_shape : {E H : Type 0} (numbers : List ℕ) (targets : List (Target E))
    (asked : List (Item E H)) (st : State E H) (held : ResourcesView) → length numbers ≡ length targets
    → IsShaped st held →
    IsShaped (record { stack = targets ++ st.stack; plan = record { items = st.plan.items ++ asked; pipes = st.plan.pipes } }) (on numbers held)
pushed_shape numbers targets asked st held same shaped =
    record { stack = omega (arith, same, shaped.stack, length-append numbers held.stack, length-append targets st.stack); pipes = shaped.pipes }

less_long : {A B : Type 0} (n : A) (rest : List A) (stack : List B)
    → length (n ∷ rest) ≡ length stack → length rest ≡ length (drop 1 stack)
less_long n rest [] is = absurd (omega (arith, is))
less_long n rest (x ∷ stack) is = omega (arith, is)

-- one end is popped from both stacks
popped_shape : {E H : Type 0} (n : ℕ) (rest : List ℕ) (then st : State E H) (kept held : ResourcesView)
    → held.stack ≡ n ∷ rest → kept.stack ≡ rest → then.stack ≡ drop 1 st.stack →
    kept.pipes ≡ held.pipes → then.plan.pipes ≡ st.plan.pipes → IsShaped st held → IsShaped then kept
popped_shape n rest then st kept held is kept_is then_is pipes plan_pipes shaped = record {
  stack = ap (λ l. length l) kept_is ∙ less_long n rest st.stack (sym (ap (λ l. length l) is) ∙ shaped.stack) ∙ sym (ap (λ l. length l) then_is);
  pipes = λ which. ap (λ p. is_some (at_side p which)) pipes ∙ shaped.pipes which ∙ sym (ap (λ p. is_some (at_side p which)) plan_pipes);
}

-- an entry that started nothing
pub plain_changes : (entry : EntryView) (count given : ℕ) (now next : JournalView)
    (held : ResourcesView) (stack : List ℕ) (pipes : PerSide (Option (ℕ × ℕ))) →
    Adds entry count given now next → length (opened_by entry) ≡ count
    → length (spent_by entry) ≡ given → AreFresh now.next next.next (opened_by entry)
    → child_by entry ≡ [] → feed_by entry ≡ [] → drain_by entry ≡ [] →
    let kept = record held { stack = stack; pipes = pipes } in
    ((n : ℕ) → count_of n (opened_by entry) + count_of n (open_ends held)
    ≡ count_of n (spent_by entry) + count_of n (open_ends kept))
    → length (opened_by entry) + length (open_ends held) ≡ length (spent_by entry) + length (open_ends kept)
    → Changes entry now next held kept
plain_changes entry count given now next held stack pipes adds many less fresh no_child no_feed no_drain even long = record {
  adds = adds_as entry count given _ _ now next adds many less;
  fresh = fresh;
  even = even;
  long = long;
  children_are = sym (append-nil held.children) ∙ ap (λ (l : List ℕ). held.children ++ l) (sym no_child);
  feeds_are = sym (append-nil held.feeds) ∙ ap (λ (l : List ℕ). held.feeds ++ l) (sym no_feed);
  drains_are = sym (append-nil held.drains) ∙ ap (λ (l : List ℕ). held.drains ++ l) (sym no_drain);
}

-- an entry that did not change what is held
pub none_changes : (entry : EntryView) (now next : JournalView) (held : ResourcesView) →
    Asks entry now next → opened_by entry ≡ [] → spent_by entry ≡ [] → child_by entry ≡ []
    → feed_by entry ≡ [] → drain_by entry ≡ [] → Changes entry now next held held
none_changes entry now next held asks no_end none no_child no_feed no_drain =
    let g = ap (λ (l : List ℕ). length l) no_end in
    let s = ap (λ (l : List ℕ). length l) none in
    plain_changes entry 0 0 now next held held.stack held.pipes asks g s
    (subst (λ (l : List ℕ). AreFresh now.next next.next l) (sym no_end) (fresh_none now.next next.next asks.next_grows)) no_child no_feed no_drain
    (λ n. omega (arith, ap (λ (l : List ℕ). count_of n l) no_end, ap (λ (l : List ℕ). count_of n l) none)) (omega (arith, g, s))

-- an entry that got one end, which is pushed
push_changes : (entry : EntryView) (n : ℕ) (now next : JournalView) (held : ResourcesView)
    → GetsEnd entry n now next → opened_by entry ≡ n ∷ [] → spent_by entry ≡ [] → child_by entry ≡ [] →
    feed_by entry ≡ [] → drain_by entry ≡ [] → Changes entry now next held (on (n ∷ []) held)
push_changes entry n now next held gets got none no_child no_feed no_drain =
    let g = ap (λ (l : List ℕ). length l) got in
    let s = ap (λ (l : List ℕ). length l) none in
    plain_changes entry 1 0 now next held (n ∷ held.stack) held.pipes gets.0 g s
    (subst (λ (l : List ℕ). AreFresh now.next next.next l) (sym got) (fresh_one now.next next.next n gets.1.after_old gets.1.below_new)) no_child no_feed no_drain
    (λ m. omega (arith, ap (λ (l : List ℕ). count_of m l) got, ap (λ (l : List ℕ). count_of m l) none, count-cons m n (open_ends held))) (omega (arith, g, s))

-- the origin of an end that an entry opened, whatever entries come later
pub opened_here : (context : RunContext) (added more : List EntryView) (entry : EntryView)
    (n next which : ℕ) → n < next → IsLater context next more → is_traced entry ≡ true
    → origin_before (entry ∷ reverse added) n ≡ Opened n → slice_index (opened_by entry) which ≡ n
    → (place : ℕ) → length (trace added) ≡ place
    → origin ((added ++ entry ∷ []) ++ more) n
    ≡ Opened (end_at (trace ((added ++ entry ∷ []) ++ more)) place which)
opened_here context added more entry n next which below later traced here got_here place many =
    origin_stays n (added ++ entry ∷ []) more (later.fresh n below) ∙ origin-more n added entry ∙ here
    ∙ ap Opened (sym (ap (λ (k : ℕ). end_at (trace ((added ++ entry ∷ []) ++ more)) k which) (sym many) ∙ end_at_seam added entry more which traced ∙ got_here))

get_counts : (xs : List ℕ) (d m : ℕ) → slice_get xs d ≡ Some m → 1 ≤ count_of m xs
get_counts [] d m is = cc
get_counts (x ∷ xs) zero m is = let same : x ≡ m = cc in omega (arith, count-cons m x xs, ap (λ k. count_of m (k ∷ [])) same, count_same m)
get_counts (x ∷ xs) (suc d) m is = omega (arith, count-cons m x xs, get_counts xs d m is)

-- the end at a depth of the stack is held
level_counts : (stack : List ℕ) (d m : ℕ) → at_depth stack d ≡ Some m → 1 ≤ count_of m stack
level_counts stack d m is = omega (arith, get_counts (reverse stack) d m is, count-reverse m stack)

pair_writes : (L : List EntryView) (o : Option ℕ) (r w : ℕ) → IsPair L o (Some (r, w))
    → origin L w ≡ Opened (end_at (trace L) (unwrap_or o 0) 1)
pair_writes L None r w is = absurd is
pair_writes L (Some place) r w is = is.1

fed_top : {E : Type 0} (early : Type 0) (number_of : E → ℕ) (L : List EntryView) (n : ℕ)
    (rest : List ℕ) (stack : List (Target E)) → IsWriter stack
    → Pairwise (IsFrom early number_of L) (n ∷ rest) stack
    → origin L n ≡ Opened (end_at (trace L) (pipe_place stack) 1)
fed_top early number_of L n rest (WriterAt place ∷ stack) writer is = is.0.0
fed_top early number_of L n rest stack writer is = absurd writer

-- an entry that spent the end on top of the stack
pub pop_changes : (entry : EntryView) (n : ℕ) (rest children feeds drains : List ℕ)
    (now next : JournalView) (held : ResourcesView) → GivesEnds entry 1 now next
    → opened_by entry ≡ [] → spent_by entry ≡ n ∷ [] → held.stack ≡ n ∷ rest
    → children ≡ held.children ++ child_by entry → feeds ≡ held.feeds ++ feed_by entry
    → drains ≡ held.drains ++ drain_by entry
    → Changes entry now next held
    (record { stack = rest; pipes = held.pipes; children = children; feeds = feeds; drains = drains })
pop_changes entry n rest children feeds drains now next held gives none spent is c f d =
    let others = ends_of_pipes held.pipes in
    let g = ap (λ (l : List ℕ). length l) none in
    let s = ap (λ (l : List ℕ). length l) spent in
    record {
      adds = adds_as entry 0 1 _ _ now next gives g s;
      fresh = subst (λ (l : List ℕ). AreFresh now.next next.next l) (sym none) (fresh_none now.next next.next gives.next_grows);
      even = λ k. omega (arith, ap (λ (l : List ℕ). count_of k l) none, ap (λ (l : List ℕ). count_of k l) spent, ap (λ (l : List ℕ). count_of k (l ++ others)) is, count-cons k n (rest ++ others));
      long = omega (arith, g, s, ap (λ (l : List ℕ). length (l ++ others)) is);
      children_are = c;
      feeds_are = f;
      drains_are = d;
    }

module _ {E H : Type 0} (allows : Allows H) (number_of : E → ℕ) where
  -- an action whose request got one end
  got_succeeds : (act : Action E H) (asked : State E H → List (Item E H)) (x : State E H → Target E)
      (entry : EntryView) (n : ℕ) (now next : JournalView) (held : ResourcesView) →
      ((st : State E H) → advance st act ≡ record { stack = x st ∷ st.stack; plan = record { items = st.plan.items ++ asked st; pipes = st.plan.pipes } }) →
      GetsEnd entry n now next → opened_by entry ≡ n ∷ [] → spent_by entry ≡ [] → child_by entry ≡ [] → feed_by entry ≡ [] → drain_by entry ≡ [] → fault_of entry ≡ None →
      ((st : State E H) → map entry_kind (trace (entry ∷ [])) ≡ map item_kind (asked st)) →
      ((context : RunContext) (st : State E H) (L : List EntryView) → AnswersUnder context allows number_of L (length st.plan.items) (asked st) (trace (entry ∷ []))) →
      ((context : RunContext) (st : State E H) → IsReady number_of context.base context.bound st act → (invariant : RunInvariant allows number_of context st now held) → (more : List EntryView) → IsLater context next.next more →
      HasOrigins (IsEarly context) number_of ((invariant.added ++ entry ∷ []) ++ more) st held →
      IsFrom (IsEarly context) number_of ((invariant.added ++ entry ∷ []) ++ more) n (x st)) →
      ActionSucceeds allows number_of act now next held (on (n ∷ []) held)
  got_succeeds act asked x entry n now next held is gets got none no_child no_feed no_drain clean many matches source = λ context st ready invariant.
      let then_st : State E H = record { stack = x st ∷ st.stack; plan = record { items = st.plan.items ++ asked st; pipes = st.plan.pipes } } in
      let ch = push_changes entry n now next held gets got none no_child no_feed no_drain in
      subst (λ (s : State E H). RunInvariant allows number_of context s next (on (n ∷ []) held)) (sym (is st))
      (invariant_more allows number_of context st then_st (asked st) now next held (on (n ∷ []) held) entry invariant refl ch
      (few_of context.bound (on (n ∷ []) held) (omega (arith, invariant.shaped.stack, ready.low, ap (λ (s : State E H). length s.stack) (is st)))) (pushed_shape (n ∷ []) (x st ∷ []) (asked st) st held refl invariant.shaped) clean (many st)
      (λ more later. matches context st ((invariant.added ++ entry ∷ []) ++ more))
      (λ more later.
      let s = sources_now allows number_of context st then_st (asked st) now next held (on (n ∷ []) held) entry invariant refl ch more later in
      record { stack = (source context st ready invariant more later s, s.stack); pipes = s.pipes }))

  pub open_read_succeeds : (path : List ℕ) (n : ℕ) (now next : JournalView) (held : ResourcesView)
      → GetsEnd (OpenRead path (Ok n)) n now next
      → ActionSucceeds allows number_of (action.open_read path) now next held (on (n ∷ []) held)
  open_read_succeeds path n now next held gets =
      got_succeeds (action.open_read path) (λ st. AskOpenRead path ∷ []) (λ st. FileAt (length st.plan.items)) (OpenRead path (Ok n)) n now next held (λ st. refl) gets refl refl refl refl refl refl (λ st. refl) (λ context st L. (refl, tt))
      (λ context st ready invariant more later s. surely (IsEarly context) (opened_here context invariant.added more (OpenRead path (Ok n)) n next.next 0 gets.1.below_new later refl (rw is_itself refl) refl (length st.plan.items) (as_many invariant)))

  pub create_succeeds : (path : List ℕ) (n : ℕ) (now next : JournalView) (held : ResourcesView)
      → GetsEnd (Create path (Ok n)) n now next
      → ActionSucceeds allows number_of (action.create path) now next held (on (n ∷ []) held)
  create_succeeds path n now next held gets =
      got_succeeds (action.create path) (λ st. AskCreate path ∷ []) (λ st. FileAt (length st.plan.items)) (Create path (Ok n)) n now next held (λ st. refl) gets refl refl refl refl refl refl (λ st. refl) (λ context st L. (refl, tt))
      (λ context st ready invariant more later s. surely (IsEarly context) (opened_here context invariant.added more (Create path (Ok n)) n next.next 0 gets.1.below_new later refl (rw is_itself refl) refl (length st.plan.items) (as_many invariant)))

  same_plan : (x : Target E) (st : State E H)
      → action.with_end x st ≡ record { stack = x ∷ st.stack; plan = record { items = st.plan.items ++ []; pipes = st.plan.pipes } }
  same_plan x st = ap (λ (l : List (Item E H)). record { stack = x ∷ st.stack; plan = record { items = l; pipes = st.plan.pipes } }) (sym (append-nil st.plan.items))

  pub parent_succeeds : (which : Side) (n : ℕ) (now next : JournalView) (held : ResourcesView)
      → GetsEnd (Parent which (Ok n)) n now next
      → ActionSucceeds allows number_of (action.parent which) now next held (on (n ∷ []) held)
  parent_succeeds side.Out n now next held gets =
      got_succeeds (action.parent side.Out) (λ st. []) (λ st. Parents stream.Out) (Parent side.Out (Ok n)) n now next held (λ st. same_plan (Parents stream.Out) st) gets refl refl refl refl refl refl (λ st. refl) (λ context st L. tt)
      (λ context st ready invariant more later s. surely (IsEarly context) (origin_stays n (invariant.added ++ Parent side.Out (Ok n) ∷ []) more (later.fresh n gets.1.below_new) ∙ origin-more n invariant.added (Parent side.Out (Ok n)) ∙ rw is_itself refl))
  parent_succeeds side.Err n now next held gets =
      got_succeeds (action.parent side.Err) (λ st. []) (λ st. Parents stream.Err) (Parent side.Err (Ok n)) n now next held (λ st. same_plan (Parents stream.Err) st) gets refl refl refl refl refl refl (λ st. refl) (λ context st L. tt)
      (λ context st ready invariant more later s. surely (IsEarly context) (origin_stays n (invariant.added ++ Parent side.Err (Ok n) ∷ []) more (later.fresh n gets.1.below_new) ∙ origin-more n invariant.added (Parent side.Err (Ok n)) ∙ rw is_itself refl))

  pub lend_succeeds : (end : E) (n : ℕ) (now next : JournalView) (held : ResourcesView)
      → GetsEnd (Duplicate (number_of end) (Ok n)) n now next
      → ActionSucceeds allows number_of (action.duplicate_caller_end end) now next held (on (n ∷ []) held)
  lend_succeeds end n now next held gets =
      let entry = Duplicate (number_of end) (Ok n) in
      got_succeeds (action.duplicate_caller_end end) (λ st. []) (λ st. Lends end) entry n now next held (λ st. same_plan (Lends end) st) gets refl refl refl refl refl refl (λ st. refl) (λ context st L. tt)
      (λ context st ready invariant more later s. (
        duplicate_first invariant.added more (number_of end) n,
        λ early. origin_stays n (invariant.added ++ entry ∷ []) more (later.fresh n gets.1.below_new) ∙ origin-more n invariant.added entry
            ∙ rw is_itself (origin_lent (number_of end) invariant.added (let lt : number_of end < context.old.next = omega (arith, ready.needs, early) in invariant.ledger.above (number_of end) lt)),
      ))

  -- an action that duplicates an end that is held
  dup_succeeds : (act : Action E H) (x : State E H → Target E) (m n : ℕ) (now next : JournalView)
      (held : ResourcesView) → ((st : State E H) → advance st act ≡ action.with_end (x st) st)
      → 1 ≤ count_of m (open_ends held) →
      ((context : RunContext) (st : State E H) → IsReady number_of context.base context.bound st act → (L : List EntryView) → HasOrigins (IsEarly context) number_of L st held → IsFrom (IsEarly context) number_of L m (x st)) →
      GetsEnd (Duplicate m (Ok n)) n now next → ActionSucceeds allows number_of act now next held (on (n ∷ []) held)
  dup_succeeds act x m n now next held is here from gets =
      let entry = Duplicate m (Ok n) in
      let fresh = fresh_one now.next next.next n gets.1.after_old gets.1.below_new in
      got_succeeds act (λ st. []) x entry n now next held (λ st. is st ∙ same_plan (x st) st) gets refl refl refl refl refl refl (λ st. refl) (λ context st L. tt)
      (λ context st ready invariant more later sourced.
      let L = (invariant.added ++ entry ∷ []) ++ more in
      let below : m < now.next = elim (cases_lt m now.next) [ inl lt ↦ lt | inr le ↦ absurd (omega (arith, here, invariant.ledger.even m, invariant.ledger.below m le)) ] in
      let dup : origin L n ≡ origin invariant.added m = origin_stays n (invariant.added ++ entry ∷ []) more (later.fresh n gets.1.below_new) ∙ origin-more n invariant.added entry ∙ rw is_itself refl in
      let lent : origin L m ≡ origin invariant.added m =
      ap (λ (l : List EntryView). origin l m) (append_assoc invariant.added (entry ∷ []) more) ∙ origin_stays m invariant.added (entry ∷ more) ((later_more context now.next next.next entry more fresh later).fresh m below) in
      duplicated (IsEarly context) number_of invariant.added more m n (x st) (dup ∙ sym lent) (from context st ready (invariant.added ++ []) (invariant.sources [] (record { fresh = λ k lt. refl }))) (from context st ready L sourced))

  pub duplicate_succeeds : (depth m n : ℕ) (now next : JournalView) (held : ResourcesView)
      → at_depth held.stack depth ≡ Some m → GetsEnd (Duplicate m (Ok n)) n now next
      → ActionSucceeds allows number_of (action.duplicate depth) now next held (on (n ∷ []) held)
  duplicate_succeeds depth m n now next held at_level gets =
      dup_succeeds (action.duplicate depth) (λ st. unwrap_or (at_depth st.stack depth) Nothing) m n now next held (λ st. refl)
      (omega (arith, count-append m held.stack (ends_of_pipes held.pipes), level_counts held.stack depth m at_level))
      (λ context st ready L s. pair_level (IsFrom (IsEarly context) number_of L) held.stack st.stack depth m Nothing s.stack at_level)
      gets

  pub tap_succeeds : (which : Side) (r w n : ℕ) (now next : JournalView) (held : ResourcesView)
      → at_side held.pipes which ≡ Some (r, w) → GetsEnd (Duplicate w (Ok n)) n now next
      → ActionSucceeds allows number_of (action.duplicate_capture which) now next held (on (n ∷ []) held)
  tap_succeeds which r w n now next held is gets =
      dup_succeeds (action.duplicate_capture which) (λ st. WriterAt (unwrap_or (at_side st.plan.pipes which) 0)) w n now next held (λ st. refl)
      (omega (arith, count-append w held.stack (ends_of_pipes held.pipes), counts_with w held.pipes which None, ap (λ o. count_of w (pipe_ends o)) is, count-cons w r (w ∷ []), count_same w))
      (λ context st ready L s. surely (IsEarly context) (pair_writes L (at_side st.plan.pipes which) r w (subst (λ o. IsPair L (at_side st.plan.pipes which) o) is (s.pipes which)))) gets

  -- an action that opens a pipe, with either end on top
  two_succeeds : (act : Action E H) (a b n m : ℕ) (x y : State E H → Target E) (now next : JournalView)
      (held : ResourcesView) →
      ((st : State E H) → advance st act ≡ record { stack = x st ∷ y st ∷ st.stack; plan = record { items = st.plan.items ++ AskPipe ∷ []; pipes = st.plan.pipes } }) →
      ((k : ℕ) → count_of k (a ∷ b ∷ []) ≡ count_of k (n ∷ m ∷ [])) →
      ((early : Type 0) (st : State E H) (L : List EntryView) → (origin L n ≡ Opened (end_at (trace L) (length st.plan.items) 0)) → (origin L m ≡ Opened (end_at (trace L) (length st.plan.items) 1)) →
      IsFrom early number_of L a (x st) × IsFrom early number_of L b (y st)) →
      GetsEnds (Pipe (Ok (n, m))) n m now next → ActionSucceeds allows number_of act now next held (on (a ∷ b ∷ []) held)
  two_succeeds act a b n m x y now next held is same from gets = λ context st ready invariant.
      let then_st : State E H = record { stack = x st ∷ y st ∷ st.stack; plan = record { items = st.plan.items ++ AskPipe ∷ []; pipes = st.plan.pipes } } in
      let l = Pipe (Ok (n, m)) in
      let ch : Changes l now next held (on (a ∷ b ∷ []) held) = plain_changes l 2 0 now next held (a ∷ b ∷ held.stack) held.pipes gets.0 refl refl
      (fresh_two now.next next.next n m gets.1.after_old gets.1.below_new gets.2.after_old gets.2.below_new gets.3) refl refl refl
      (λ k. omega (arith, same k, count-append k (a ∷ b ∷ []) (open_ends held))) (omega arith) in
      let other : m ≢ n = λ is. gets.3 (sym is) in
      subst (λ (z : State E H). RunInvariant allows number_of context z next (on (a ∷ b ∷ []) held)) (sym (is st))
      (invariant_more allows number_of context st then_st (AskPipe ∷ []) now next held (on (a ∷ b ∷ []) held) l invariant refl ch
      (few_of context.bound (on (a ∷ b ∷ []) held) (omega (arith, invariant.shaped.stack, ready.low, ap (λ (s : State E H). length s.stack) (is st)))) (pushed_shape (a ∷ b ∷ []) (x st ∷ y st ∷ []) (AskPipe ∷ []) st held refl invariant.shaped) refl refl (λ more later. (tt, tt))
      (λ more later.
      let L = (invariant.added ++ l ∷ []) ++ more in
      let z = sources_now allows number_of context st then_st (AskPipe ∷ []) now next held (on (a ∷ b ∷ []) held) l invariant refl ch more later in
      let r = opened_here context invariant.added more l n next.next 0 gets.1.below_new later refl (rw is_itself refl) refl (length st.plan.items) (as_many invariant) in
      let w = opened_here context invariant.added more l m next.next 1 gets.2.below_new later refl (rw (other_than m n (count_other m n other), is_itself) refl) refl (length st.plan.items) (as_many invariant) in
      let both = from (IsEarly context) st L r w in
      record { stack = (both.0, (both.1, z.stack)); pipes = z.pipes }))

  pub pipe_succeeds : (n m : ℕ) (now next : JournalView) (held : ResourcesView)
      → GetsEnds (Pipe (Ok (n, m))) n m now next
      → ActionSucceeds allows number_of action.pipe now next held (on (m ∷ n ∷ []) held)
  pipe_succeeds n m now next held gets =
      two_succeeds action.pipe m n n m (λ st. WriterAt (length st.plan.items)) (λ st. ReaderAt (length st.plan.items)) now next held (λ st. refl)
      (λ k. omega (arith, count-cons k m (n ∷ []), count-cons k n (m ∷ []))) (λ early st L r w. (surely early w, surely early r)) gets

  pub input_succeeds : (n m : ℕ) (now next : JournalView) (held : ResourcesView)
      → GetsEnds (Pipe (Ok (n, m))) n m now next
      → ActionSucceeds allows number_of action.input now next held (on (n ∷ m ∷ []) held)
  input_succeeds n m now next held gets =
      two_succeeds action.input n m n m (λ st. ReaderAt (length st.plan.items)) (λ st. WriterAt (length st.plan.items)) now next held (λ st. refl)
      (λ k. refl) (λ early st L r w. (surely early r, surely early w)) gets

  pub close_succeeds : (n : ℕ) (rest : List ℕ) (now next : JournalView) (held : ResourcesView)
      → held.stack ≡ n ∷ rest → GivesEnds (Close n) 1 now next
      → ActionSucceeds allows number_of action.close now next held (resources_with_stack rest held)
  close_succeeds n rest now next held is gives = λ context st ready invariant.
      let ch : Changes (Close n) now next held (resources_with_stack rest held) =
      pop_changes (Close n) n rest held.children held.feeds held.drains now next held gives refl refl is (sym (append-nil held.children)) (sym (append-nil held.feeds)) (sym (append-nil held.drains)) in
      let items = sym (append-nil st.plan.items) in
      invariant_more allows number_of context st (advance st action.close) [] now next held (resources_with_stack rest held) (Close n) invariant items ch
      (omega (arith, few_now allows number_of context st now held invariant, ap (λ (l : List ℕ). length (l ++ ends_of_pipes held.pipes)) is)) (popped_shape n rest (advance st action.close) st (resources_with_stack rest held) held is refl refl refl refl invariant.shaped) refl refl (λ more later. tt)
      (λ more later.
      let s = sources_now allows number_of context st (advance st action.close) [] now next held (resources_with_stack rest held) (Close n) invariant items ch more later in
      let L = (invariant.added ++ Close n ∷ []) ++ more in
      record { stack = pair_popped (IsFrom (IsEarly context) number_of L) n rest st.stack (subst (λ (l : List ℕ). Pairwise (IsFrom (IsEarly context) number_of L) l st.stack) is s.stack); pipes = s.pipes })

  module _ (n : ℕ) (rest bytes : List ℕ) (now next : JournalView) (held : ResourcesView) (is : held.stack ≡ n ∷ rest) where
    fed : (answer : Result (Unit {0}) Fault) (kept : ResourcesView) (context : RunContext) (st : State E H)
        → IsReady number_of context.base context.bound st (action.feed bytes)
        → (invariant : RunInvariant allows number_of context st now held) →
        (ch : Changes (Feed n bytes answer) now next held kept) → (more : List EntryView) → IsLater context next.next more →
        let L = (invariant.added ++ Feed n bytes answer ∷ []) ++ more in origin L n ≡ Opened (end_at (trace L) (pipe_place st.stack) 1)
    fed answer kept context st ready invariant ch more later =
        let L = (invariant.added ++ Feed n bytes answer ∷ []) ++ more in
        let s = sources_now allows number_of context st (advance st (action.feed bytes)) (AskFeed (pipe_place st.stack) bytes ∷ []) now next held kept (Feed n bytes answer) invariant refl ch more later in
        fed_top (IsEarly context) number_of L n rest st.stack ready.needs (subst (λ (l : List ℕ). Pairwise (IsFrom (IsEarly context) number_of L) l st.stack) is s.stack)

    pub feed_succeeds : GivesEnds (Feed n bytes (Ok tt)) 1 now next
        → ActionSucceeds allows number_of (action.feed bytes) now next held
        (record held { stack = rest; feeds = held.feeds ++ n ∷ [] })
    feed_succeeds gives = λ context st ready invariant.
        let entry = Feed n bytes (Ok tt) in
        let kept : ResourcesView = record held { stack = rest; feeds = held.feeds ++ n ∷ [] } in
        let ch : Changes entry now next held kept = pop_changes entry n rest held.children kept.feeds held.drains now next held gives refl refl is (sym (append-nil held.children)) refl (sym (append-nil held.drains)) in
        invariant_more allows number_of context st (advance st (action.feed bytes)) (AskFeed (pipe_place st.stack) bytes ∷ []) now next held kept entry invariant refl ch
        (omega (arith, few_now allows number_of context st now held invariant, ap (λ (l : List ℕ). length (l ++ ends_of_pipes held.pipes)) is)) (popped_shape n rest (advance st (action.feed bytes)) st kept held is refl refl refl refl invariant.shaped) refl refl
        (λ more later. ((refl, fed (Ok tt) kept context st ready invariant ch more later), tt))
        (λ more later.
        let L = (invariant.added ++ entry ∷ []) ++ more in
        let s = sources_now allows number_of context st (advance st (action.feed bytes)) (AskFeed (pipe_place st.stack) bytes ∷ []) now next held kept entry invariant refl ch more later in
        record { stack = pair_popped (IsFrom (IsEarly context) number_of L) n rest st.stack (subst (λ (l : List ℕ). Pairwise (IsFrom (IsEarly context) number_of L) l st.stack) is s.stack); pipes = s.pipes })

    pub feed_fails : (fault : Fault) → GivesEnds (Feed n bytes (Err fault)) 1 now next
        → ActionFails allows number_of (action.feed bytes) now next held (resources_with_stack rest held) (System fault)
    feed_fails fault gives = λ context st ready invariant.
        let entry = Feed n bytes (Err fault) in
        let ch : Changes entry now next held (resources_with_stack rest held) =
        pop_changes entry n rest held.children held.feeds held.drains now next held gives refl refl is (sym (append-nil held.children)) (sym (append-nil held.feeds)) (sym (append-nil held.drains)) in
        stops_more allows number_of context st (advance st (action.feed bytes)) (AskFeed (pipe_place st.stack) bytes ∷ []) now next held (resources_with_stack rest held) entry invariant refl ch
        (omega (arith, few_now allows number_of context st now held invariant, ap (λ (l : List ℕ). length (l ++ ends_of_pipes held.pipes)) is)) fault refl
        (λ more later. ((refl, fed (Err fault) (resources_with_stack rest held) context st ready invariant ch more later), tt))

  -- an allocation failed before the action made a request
  pub memory_fails : (act : Action E H) (asked : State E H → List (Item E H))
      (now next : JournalView) (held : ResourcesView) (error : Error) →
      ((st : State E H) → (advance st act).plan.items ≡ st.plan.items ++ asked st)
      → AddsNothing now next → IsAllocationFailure error
      → ActionFails allows number_of act now next held held error
  memory_fails act asked now next held error items nothing un = λ context st ready invariant.
      stops_unasked allows number_of context st (advance st act).plan.items (asked st) now next held error invariant (items st) nothing un

  -- a request that was given no end was refused, with or without its entry
  pub quits_none : (act : Action E H) (asked : State E H → List (Item E H)) (entry : EntryView)
      (fault : Fault) (now next : JournalView) (held : ResourcesView)
      → ((st : State E H) → (advance st act).plan.items ≡ st.plan.items ++ asked st)
      → IsRefused entry 0 fault now next → fault_of entry ≡ Some fault → opened_by entry ≡ []
      → spent_by entry ≡ [] → child_by entry ≡ [] → feed_by entry ≡ [] → drain_by entry ≡ []
      → ((context : RunContext) (st : State E H) (L : List EntryView)
      → AnswersUnder context allows number_of L (length st.plan.items) (asked st) (trace (entry ∷ [])))
      → ActionFails allows number_of act now next held held (System fault)
  quits_none act asked entry fault now next held items (inl adds) refuses no_end none no_child no_feed no_drain matches = λ context st ready invariant.
      stops_more allows number_of context st (advance st act) (asked st) now next held held entry invariant (items st)
      (none_changes entry now next held adds no_end none no_child no_feed no_drain) (few_now allows number_of context st now held invariant) fault refuses (λ more later. matches context st ((invariant.added ++ entry ∷ []) ++ more))
  quits_none act asked entry fault now next held items (inr nothing) refuses no_end none no_child no_feed no_drain matches =
      memory_fails act asked now next held (System fault) items nothing.1 nothing.2

  -- the refusals of requests that are given no end
  module _ (fault : Fault) (now next : JournalView) (held : ResourcesView) where
    pub open_read_fails : (path : List ℕ) → IsRefused (OpenRead path (Err fault)) 0 fault now next
        → ActionFails allows number_of (action.open_read path) now next held held (System fault)
    open_read_fails path refused =
        quits_none (action.open_read path) (λ st. AskOpenRead path ∷ []) (OpenRead path (Err fault)) fault now next held (λ st. refl) refused refl refl refl refl refl refl (λ context st L. (refl, tt))

    pub create_fails : (path : List ℕ) → IsRefused (Create path (Err fault)) 0 fault now next
        → ActionFails allows number_of (action.create path) now next held held (System fault)
    create_fails path refused =
        quits_none (action.create path) (λ st. AskCreate path ∷ []) (Create path (Err fault)) fault now next held (λ st. refl) refused refl refl refl refl refl refl (λ context st L. (refl, tt))

    pub pipe_fails : IsRefused (Pipe (Err fault)) 0 fault now next
        → ActionFails allows number_of action.pipe now next held held (System fault)
    pipe_fails refused = quits_none action.pipe (λ st. AskPipe ∷ []) (Pipe (Err fault)) fault now next held (λ st. refl) refused refl refl refl refl refl refl (λ context st L. (tt, tt))

    pub input_fails : IsRefused (Pipe (Err fault)) 0 fault now next
        → ActionFails allows number_of action.input now next held held (System fault)
    input_fails refused = quits_none action.input (λ st. AskPipe ∷ []) (Pipe (Err fault)) fault now next held (λ st. refl) refused refl refl refl refl refl refl (λ context st L. (tt, tt))

    pub parent_fails : (which : Side) → IsRefused (Parent which (Err fault)) 0 fault now next
        → ActionFails allows number_of (action.parent which) now next held held (System fault)
    parent_fails side.Out refused =
        quits_none (action.parent side.Out) (λ st. []) (Parent side.Out (Err fault)) fault now next held (λ st. sym (append-nil st.plan.items)) refused refl refl refl refl refl refl (λ context st L. tt)
    parent_fails side.Err refused =
        quits_none (action.parent side.Err) (λ st. []) (Parent side.Err (Err fault)) fault now next held (λ st. sym (append-nil st.plan.items)) refused refl refl refl refl refl refl (λ context st L. tt)

    -- the refusal of a request for a duplicate, of any end
    pub duplicate_fails : (act : Action E H) (m : ℕ)
        → ((st : State E H) → (advance st act).plan.items ≡ st.plan.items)
        → IsRefused (Duplicate m (Err fault)) 0 fault now next
        → ActionFails allows number_of act now next held held (System fault)
    duplicate_fails act m same refused =
        quits_none act (λ st. []) (Duplicate m (Err fault)) fault now next held (λ st. same st ∙ sym (append-nil st.plan.items)) refused refl refl refl refl refl refl (λ context st L. tt)

-- The capture pipes: each is opened once, and at the end its write end is closed and its read end
-- is passed on.
use Rattle.std.proofs.Common.{◌≡◌, ◌≢◌, ℕ, ◌≤◌, List, [], ◌∷◌, ◌++◌, length, refl, ap, sym, ◌∙◌, arith, subst, length-append, inl, inr, Some, None, Ok, Err, is_some, true, false, if◌then◌else◌, unwrap_or, Option}
use Rattle.duct_run.proofs.Common.{append-nil, EntryView, Pipe, Drain, Close, JournalView, GetsEnds, GivesEnds, IsRefused, count_of, Opened, origin, trace, System, Fault, Side, at_side, with_side, State, advance, end_at, Allows, ReaderAt, ResourcesView, ends_of_pipes, pipe_ends, with_drain, RunContext, IsEarly, IsLater, IsPair, RunInvariant, StopInvariant, ActionSucceeds, ActionFails, Item, AskPipe, AskDrain, is_itself, other_than, count_other, count-cons, count-append}
use Rattle.duct_run.specs.Actions as action
use Rattle.duct_run.proofs.Fresh.{fresh_two, fresh_none}
use Rattle.duct_run.proofs.Going.{none_changes, plain_changes, pop_changes, opened_here}
use Rattle.duct_run.proofs.CapturePipes.{counts_with, each_with, length_with}
use Rattle.duct_run.proofs.Sources.{surely}
use Rattle.duct_run.proofs.RunInvariant.{Changes, as_many, invariant_more, stops_more, stops_unasked, sources_now, few_now, few_of}

none_place : (o : Option ℕ) → is_some o ≡ false → o ≡ None
none_place None is = refl
none_place (Some place) is = absurd (cc)

some_place : (o : Option ℕ) → is_some o ≡ true → o ≡ Some (unwrap_or o 0)
some_place None is = absurd (cc)
some_place (Some place) is = refl

pair_reads : (L : List EntryView) (o : Option ℕ) (r w : ℕ) → IsPair L o (Some (r, w))
    → origin L r ≡ Opened (end_at (trace L) (unwrap_or o 0) 0)
pair_reads L None r w is = absurd is
pair_reads L (Some place) r w is = is.0

-- what is held without the capture pipe of this side, and with these ends pushed onto the stack
abbrev pub without : Side → List ℕ → ResourcesView → ResourcesView
without which tops held = record held { stack = tops ++ held.stack; pipes = with_side held.pipes which None }

-- the capture pipe of one side
module _ {E H : Type 0} (allows : Allows H) (number_of : E → ℕ) (which : Side) where
  abbrev pub place_of : State E H → Option ℕ
  place_of st = at_side st.plan.pipes which

  -- the place of an open pipe
  pub open_place : (context : RunContext) (st : State E H) (pair : ℕ × ℕ) (now : JournalView)
      (held : ResourcesView) → at_side held.pipes which ≡ Some pair
      → RunInvariant allows number_of context st now held → place_of st ≡ Some (unwrap_or (place_of st) 0)
  open_place context st pair now held is invariant = some_place (place_of st) (sym (invariant.shaped.pipes which) ∙ ap (λ o. is_some o) is)

  abbrev opened : State E H → State E H
  opened st = record { stack = st.stack; plan = record { items = st.plan.items ++ AskPipe ∷ []; pipes = with_side st.plan.pipes which (Some (length st.plan.items)) } }

  captured_if : (st : State E H) (o : Option ℕ) → place_of st ≡ o
      → record { stack = st.stack; plan = if is_some o then st.plan else (opened st).plan } ≡ advance st (action.capture which)
  captured_if st o is = ap (λ (o : Option ℕ). record { stack = st.stack; plan = if is_some o then st.plan else (opened st).plan }) (sym is)

  opens : (context : RunContext) (st : State E H) (now : JournalView) (held : ResourcesView)
      → at_side held.pipes which ≡ None → RunInvariant allows number_of context st now held
      → opened st ≡ advance st (action.capture which)
  opens context st now held is invariant = captured_if st None (none_place (place_of st) (sym (invariant.shaped.pipes which) ∙ ap (λ o. is_some o) is))

  pub capture_succeeds : (r w : ℕ) (now next : JournalView) (held : ResourcesView)
      → at_side held.pipes which ≡ None → GetsEnds (Pipe (Ok (r, w))) r w now next
      → ActionSucceeds allows number_of (action.capture which) now next held
      (record held { pipes = with_side held.pipes which (Some (r, w)) })
  capture_succeeds r w now next held is gets = λ context st ready invariant.
      let kept : ResourcesView = record held { pipes = with_side held.pipes which (Some (r, w)) } in
      let entry = Pipe (Ok (r, w)) in
      let then_st = opened st in
      let place = length st.plan.items in
      let was = λ (k : ℕ). ap (λ (o : Option (ℕ × ℕ)). count_of k (pipe_ends o)) is in
      let long = ap (λ (o : Option (ℕ × ℕ)). length (pipe_ends o)) is in
      let ch : Changes entry now next held kept = plain_changes entry 2 0 now next held held.stack kept.pipes gets.0 refl refl
      (fresh_two now.next next.next r w gets.1.after_old gets.1.below_new gets.2.after_old gets.2.below_new gets.3) refl refl refl
      (λ k. omega (arith, was k, counts_with k held.pipes which (Some (r, w)), count-append k held.stack (ends_of_pipes held.pipes), count-append k held.stack (ends_of_pipes kept.pipes)))
      (omega (arith, long, length_with held.pipes which (Some (r, w)), length-append held.stack (ends_of_pipes held.pipes), length-append held.stack (ends_of_pipes kept.pipes))) in
      let other : w ≢ r = λ is. gets.3 (sym is) in
      subst (λ (s : State E H). RunInvariant allows number_of context s next kept) (opens context st now held is invariant)
      (invariant_more allows number_of context st then_st (AskPipe ∷ []) now next held kept entry invariant refl ch (few_of context.bound kept (omega (arith, invariant.shaped.stack, ready.low)))
      (record { stack = invariant.shaped.stack; pipes = each_with (λ pipe place. is_some pipe ≡ is_some place) held.pipes st.plan.pipes which (Some (r, w)) (Some place) refl invariant.shaped.pipes }) refl refl (λ more later. (tt, tt))
      (λ more later.
      let z = sources_now allows number_of context st then_st (AskPipe ∷ []) now next held kept entry invariant refl ch more later in
      let a = opened_here context invariant.added more entry r next.next 0 gets.1.below_new later refl (rw is_itself refl) refl place (as_many invariant) in
      let b = opened_here context invariant.added more entry w next.next 1 gets.2.below_new later refl (rw (other_than w r (count_other w r other), is_itself) refl) refl place (as_many invariant) in
      record { stack = z.stack; pipes = each_with (IsPair ((invariant.added ++ entry ∷ []) ++ more)) st.plan.pipes held.pipes which (Some place) (Some (r, w)) (a, b) z.pipes }))

  pub capture_fails : (fault : Fault) (now next : JournalView) (held : ResourcesView)
      → at_side held.pipes which ≡ None → IsRefused (Pipe (Err fault)) 0 fault now next
      → ActionFails allows number_of (action.capture which) now next held held (System fault)
  capture_fails fault now next held is refused = λ context st ready invariant.
      let then_st = opened st in
      let entry = Pipe (Err fault) in
      subst (λ (s : State E H). StopInvariant allows number_of context s.plan.items next held (System fault)) (opens context st now held is invariant) (elim refused [
        | inl adds ↦
            stops_more allows number_of context st then_st (AskPipe ∷ []) now next held held entry invariant refl
            (none_changes entry now next held adds refl refl refl refl refl) (few_now allows number_of context st now held invariant) fault refl (λ more later. (tt, tt))
        | inr nothing ↦ stops_unasked allows number_of context st then_st.plan.items (AskPipe ∷ []) now next held (System fault) invariant refl nothing.1 nothing.2
      ])

  -- its write end is closed, and its read end is on the stack for a moment
  abbrev pub mid_state : State E H → State E H
  mid_state st = record { stack = ReaderAt (unwrap_or (place_of st) 0) ∷ st.stack; plan = record { items = st.plan.items; pipes = with_side st.plan.pipes which None } }

  pub closes : (context : RunContext) (st : State E H) (r w : ℕ) (now next : JournalView)
      (held : ResourcesView) → at_side held.pipes which ≡ Some (r, w) → GivesEnds (Close w) 1 now next
      → length st.stack ≤ context.bound →
      RunInvariant allows number_of context st now held → RunInvariant allows number_of context (mid_state st) next (without which (r ∷ []) held)
  closes context st r w now next held is gives low invariant =
      let kept = without which (r ∷ []) held in
      let items = sym (append-nil st.plan.items) in
      let was = λ (k : ℕ). ap (λ (o : Option (ℕ × ℕ)). count_of k (pipe_ends o)) is in
      let long = ap (λ (o : Option (ℕ × ℕ)). length (pipe_ends o)) is in
      let ch : Changes (Close w) now next held kept = plain_changes (Close w) 0 1 now next held kept.stack kept.pipes gives refl refl (fresh_none now.next next.next gives.next_grows) refl refl refl
      (λ k. omega (arith, was k, counts_with k held.pipes which None, count-cons k r (w ∷ []), count-cons k r (held.stack ++ ends_of_pipes kept.pipes), count-append k held.stack (ends_of_pipes held.pipes), count-append k held.stack (ends_of_pipes kept.pipes)))
      (omega (arith, long, length_with held.pipes which None, length-append held.stack (ends_of_pipes held.pipes), length-append held.stack (ends_of_pipes kept.pipes))) in
      invariant_more allows number_of context st (mid_state st) [] now next held kept (Close w) invariant items ch (few_of context.bound kept (omega (arith, invariant.shaped.stack, low)))
      (record { stack = omega (arith, invariant.shaped.stack); pipes = each_with (λ pipe place. is_some pipe ≡ is_some place) held.pipes st.plan.pipes which None None refl invariant.shaped.pipes }) refl refl (λ more later. tt)
      (λ more later.
      let L = (invariant.added ++ Close w ∷ []) ++ more in
      let z = sources_now allows number_of context st (mid_state st) [] now next held kept (Close w) invariant items ch more later in
      let top = surely (IsEarly context) (pair_reads L (place_of st) r w (subst (λ o. IsPair L (place_of st) o) is (z.pipes which))) in
      record { stack = (top, z.stack); pipes = each_with (IsPair L) st.plan.pipes held.pipes which None None tt z.pipes })

  -- its read end is given to a drain worker
  abbrev drained : State E H → State E H
  drained st = record { stack = st.stack; plan = record { items = st.plan.items ++ AskDrain (unwrap_or (place_of st) 0) ∷ []; pipes = with_side st.plan.pipes which None } }

  module _ (r w : ℕ) (now mid next : JournalView) (held : ResourcesView) (is : at_side held.pipes which ≡ Some (r, w)) (closed : GivesEnds (Close w) 1 now mid) where
    after : (context : RunContext) (st : State E H) → RunInvariant allows number_of context st now held
        → drained st ≡ advance st (action.finish which)
    after context st invariant =
        ap (λ (o : Option ℕ). record { stack = st.stack; plan = record { items = (with_drain o st.plan).items; pipes = with_side st.plan.pipes which None } }) (sym (open_place context st (r, w) now held is invariant))

    pub finish_succeeds : GivesEnds (Drain r (Ok tt)) 1 mid next
        → ActionSucceeds allows number_of (action.finish which) now next held
        (record held { pipes = with_side held.pipes which None; drains = held.drains ++ r ∷ [] })
    finish_succeeds gives = λ context st ready invariant.
        let first = closes context st r w now mid held is closed ready.low invariant in
        let one = mid_state st in
        let before = without which (r ∷ []) held in
        let kept : ResourcesView = record held { pipes = with_side held.pipes which None; drains = held.drains ++ r ∷ [] } in
        let entry = Drain r (Ok tt) in
        let asked : List (Item E H) = AskDrain (unwrap_or (place_of st) 0) ∷ [] in
        let ch : Changes entry mid next before kept = pop_changes entry r held.stack held.children held.feeds kept.drains mid next before gives refl refl refl (sym (append-nil held.children)) (sym (append-nil held.feeds)) refl in
        let from = λ (more : List EntryView) (later : IsLater context next.next more). sources_now allows number_of context one (drained st) asked mid next before kept entry first refl ch more later in
        subst (λ (s : State E H). RunInvariant allows number_of context s next kept) (after context st invariant)
        (invariant_more allows number_of context one (drained st) asked mid next before kept entry first refl ch (few_of context.bound kept (omega (arith, invariant.shaped.stack, ready.low))) (record { stack = invariant.shaped.stack; pipes = first.shaped.pipes }) refl refl
        (λ more later. ((from more later).stack.0.0, tt))
        (λ more later. let z = from more later in record { stack = z.stack.1; pipes = z.pipes }))

    pub finish_fails : (fault : Fault) → GivesEnds (Drain r (Err fault)) 1 mid next
        → ActionFails allows number_of (action.finish which) now next held (without which [] held)
        (System fault)
    finish_fails fault gives = λ context st ready invariant.
        let first = closes context st r w now mid held is closed ready.low invariant in
        let one = mid_state st in
        let before = without which (r ∷ []) held in
        let kept = without which [] held in
        let entry = Drain r (Err fault) in
        let asked : List (Item E H) = AskDrain (unwrap_or (place_of st) 0) ∷ [] in
        let ch : Changes entry mid next before kept = pop_changes entry r held.stack held.children held.feeds held.drains mid next before gives refl refl refl (sym (append-nil held.children)) (sym (append-nil held.feeds)) (sym (append-nil held.drains)) in
        subst (λ (s : State E H). StopInvariant allows number_of context s.plan.items next kept (System fault)) (after context st invariant)
        (stops_more allows number_of context one (drained st) asked mid next before kept entry first refl ch (few_of context.bound kept (omega (arith, invariant.shaped.stack, ready.low))) fault refl
        (λ more later. ((sources_now allows number_of context one (drained st) asked mid next before kept entry first refl ch more later).stack.0.0, tt)))

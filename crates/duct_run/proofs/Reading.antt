-- The end of a reader's start: the write end of stdout's capture pipe is closed, and a reader is
-- made of its read end.
use Rattle.std.proofs.Common.{◌≡◌, ℕ, ◌≤◌, List, [], ◌∷◌, ◌++◌, length, refl, ap, sym, ◌∙◌, arith, subst, append_assoc, Some, unwrap_or, Option}
use Rattle.duct_run.proofs.Common.{append-nil, EntryView, Close, Reader, JournalView, GivesEnds, segment, Action, State, with_plan, Allows, ResourcesView, with_reader, PlanTail, ActionsSucceed, LeadToSomePlan, context_of, reader_tail, RunContext, IsLater, RunInvariant, Item, AskReader}
use Rattle.duct_system.specs.declared.system.Side.TheVariants as side
use Rattle.duct_start.specs.Running.{MadeReader}
use Rattle.duct_run.proofs.Captured.{closes, mid_state, open_place, without}
use Rattle.duct_run.proofs.Going.{pop_changes}
use Rattle.duct_run.proofs.RunInvariant.{Changes, few_of, sources_now, invariant_more}
use Rattle.duct_run.proofs.Whole.{segment-added}

module _ {E H : Type 0} {allows : Allows H} {number_of : E → ℕ} {r w : ℕ} {now mid next : JournalView} {held : ResourcesView} (is : held.pipes.out ≡ Some (r, w))
    (closed : GivesEnds (Close w) 1 now mid) (made : GivesEnds (Reader r) 1 mid next) where
  reads_on : (context : RunContext) (st : State E H) → length st.stack ≤ context.bound
      → RunInvariant allows number_of context st now held
      → RunInvariant allows number_of context (record { stack = st.stack; plan = reader_tail st.plan }) next (without side.Out [] held)
  reads_on context st low invariant =
      let first = closes allows number_of side.Out context st r w now mid held is closed low invariant in
      let one = mid_state allows number_of side.Out st in
      let before = without side.Out (r ∷ []) held in
      let kept = without side.Out [] held in
      let entry = Reader r in
      let asked : List (Item E H) = AskReader (unwrap_or st.plan.pipes.out 0) ∷ [] in
      let then_st : State E H = record { stack = st.stack; plan = record { items = st.plan.items ++ asked; pipes = one.plan.pipes } } in
      let ch : Changes entry mid next before kept = pop_changes entry r held.stack held.children held.feeds held.drains mid next before made refl refl refl (sym (append-nil held.children)) (sym (append-nil held.feeds)) (sym (append-nil held.drains)) in
      let from = λ (more : List EntryView) (later : IsLater context next.next more). sources_now allows number_of context one then_st asked mid next before kept entry first refl ch more later in
      let open' = open_place allows number_of side.Out context st (r, w) now held is invariant in
      let same : then_st ≡ record { stack = st.stack; plan = reader_tail st.plan } = ap (λ (o : Option ℕ). record { stack = st.stack; plan = record { items = (with_reader o st.plan).items; pipes = one.plan.pipes } }) (sym open') in
      subst (λ (s : State E H). RunInvariant allows number_of context s next kept) same
      (invariant_more allows number_of context one then_st asked mid next before kept entry first refl ch (few_of context.bound kept (omega (arith, invariant.shaped.stack, low))) (record { stack = invariant.shaped.stack; pipes = first.shaped.pipes }) refl refl
      (λ more later. ((from more later).stack.0.0, tt))
      (λ more later. let z = from more later in record { stack = z.stack.1; pipes = z.pipes }))

  module _ {ending : PlanTail E H} {actions : List (Action E H)} {old : JournalView} (runs : ActionsSucceed allows number_of ending actions old now held) where
    pub run_reads : ActionsSucceed allows number_of (λ plan. reader_tail (ending plan)) actions old next
        (without side.Out [] held)
    run_reads = (runs.0, λ base bound plan leads. reads_on (context_of old base bound runs.0) (with_plan (ending plan)) (omega arith) (runs.1 base bound plan leads))

    -- the request for the reader is the last one
    pub reader_last : {R : Type 0} (may : ℕ → R → Type 0) {reader : R} → may r reader
        → LeadToSomePlan number_of actions → MadeReader may (segment old.entries next.entries) reader
    reader_last may told leads =
        let invariant = runs.1 leads.0 leads.1 leads.2 leads.3 in
        let added = invariant.added ++ Close w ∷ [] in
        let all : next.entries ≡ old.entries ++ (added ++ Reader r ∷ []) =
        made.entries_are ∙ ap (λ (l : List EntryView). l ++ Reader r ∷ []) (closed.entries_are ∙ ap (λ (l : List EntryView). l ++ Close w ∷ []) invariant.ledger.entries_are)
        ∙ ap (λ (l : List EntryView). l ++ Reader r ∷ []) (append_assoc old.entries invariant.added (Close w ∷ [])) ∙ append_assoc old.entries added (Reader r ∷ []) in
        (added, r, ap (λ (l : List EntryView). segment old.entries l) all ∙ segment-added old.entries (added ++ Reader r ∷ []), told)

-- A run goes on by one entry, or stops there.
use Rattle.std.proofs.Common.{◌≡◌, ℕ, zero, suc, take, refl, inl, inr, ◌+◌, ◌<◌, ◌≤◌, List, [], ◌∷◌, ◌++◌, length, ap, sym, ◌∙◌, arith, subst, append_assoc, length-append, Some, None, map, Option}
use Rattle.duct_run.proofs.Common.{append-nil, length-map, map-append, cases_lt, flat_map-append, EntryView, JournalView, Adds, AddsNothing, opened_numbers, spent_numbers, open_count, opened_by, spent_by, count_of, children_in, feeds_in, drains_in, child_by, feed_by, drain_by, trace, IsClean, fault_of, Error, System, Fault, State, Allows, AnswersFromBy, StreamsRelation, pairs_in, ResourcesView, open_ends, ends_of_pipes, pipe_ends, ItemKind, entry_kind, item_kind, AnswersUnder, AreFresh, RunContext, OpenEndsWithin, IsEarly, IsLater, IsShaped, LedgerInvariant, GivesUnder, HasOrigins, RunInvariant, StopInvariant, refused, unasked, IsAllocationFailure, Item, once_of, opened_numbers-append, spent_numbers-append, count_got-append, count_spent-append, trace-append}
use Rattle.duct_run.proofs.Fresh.{later_more}

-- the trace has as many entries as the plan has items
pub as_many : {E H : Type 0} {allows : Allows H} {number_of : E → ℕ} {context : RunContext}
    {state : State E H} {now : JournalView} {held : ResourcesView}
    (invariant : RunInvariant allows number_of context state now held)
    → length (trace invariant.added) ≡ length state.plan.items
as_many {E} {H} {allows} {number_of} {context} {state} {now} {held} invariant =
    sym (length-map (trace invariant.added) entry_kind) ∙ ap (λ (l : List ItemKind). length l) invariant.kinds ∙ length-map state.plan.items item_kind

module _ {E H : Type 0} (gives : StreamsRelation) (allows : Allows H) (number_of : E → ℕ) where
  -- entries that match some items, followed by entries that match more items, match all these items
  answers-append : (L : List EntryView) (place : ℕ) (items more : List (Item E H))
      (entries rest : List EntryView) → length entries ≡ length items →
      AnswersFromBy gives allows number_of L place items entries → AnswersFromBy gives allows number_of L (place + length items) more rest → AnswersFromBy gives allows number_of L place (items ++ more) (entries ++ rest)
  answers-append L place [] more [] rest same first second = subst (λ (k : ℕ). AnswersFromBy gives allows number_of L k more rest) (omega arith) second
  answers-append L place [] more (entry ∷ entries) rest same first second = absurd first
  answers-append L place (item ∷ items) more [] rest same first second = absurd (omega (arith, same))
  answers-append L place (item ∷ items) more (entry ∷ entries) rest same first second =
      let less : length entries ≡ length items = omega (arith, same) in
      (first.0, answers-append L (place + 1) items more entries rest less first.1 (subst (λ (k : ℕ). AnswersFromBy gives allows number_of L k more rest) (omega arith) second))

  -- entries that match some items match them with more items at the end, too
  pub answers_front : (L : List EntryView) (place : ℕ) (items more : List (Item E H))
      (entries : List EntryView) → AnswersFromBy gives allows number_of L place items entries
      → AnswersFromBy gives allows number_of L place (items ++ more) entries
  answers_front L place items more [] first = tt
  answers_front L place [] more (entry ∷ entries) first = absurd first
  answers_front L place (item ∷ items) more (entry ∷ entries) first = (first.0, answers_front L (place + 1) items more entries first.1)

clean_more : (xs : List EntryView) (entry : EntryView) → IsClean xs → fault_of entry ≡ None
    → IsClean (xs ++ entry ∷ [])
clean_more [] entry clean one = (one, tt)
clean_more (x ∷ xs) entry clean one = (clean.0, clean_more xs entry clean.1 one)

-- what one entry changes in what is held, by the ends that it got and spent
pub record Changes (entry : EntryView) (now then : JournalView)
    (held kept : ResourcesView) : Type 0 where
  pub adds : Adds entry (length (opened_by entry)) (length (spent_by entry)) now then
  pub fresh : AreFresh now.next then.next (opened_by entry)
  pub even : (n : ℕ) → count_of n (opened_by entry) + count_of n (open_ends held)
      ≡ count_of n (spent_by entry) + count_of n (open_ends kept)
  pub long : length (opened_by entry) + length (open_ends held)
      ≡ length (spent_by entry) + length (open_ends kept)
  pub children_are : kept.children ≡ held.children ++ child_by entry
  pub feeds_are : kept.feeds ≡ held.feeds ++ feed_by entry
  pub drains_are : kept.drains ≡ held.drains ++ drain_by entry

pub ledger_more : (old now then : JournalView) (added : List EntryView) (entry : EntryView)
    (held kept : ResourcesView) → Changes entry now then held kept → LedgerInvariant old now added held
    → LedgerInvariant old then (added ++ entry ∷ []) kept
ledger_more old now then added entry held kept ch ledger =
    let nil = λ (n : ℕ). ap (λ (l : List ℕ). count_of n l) (append-nil (opened_by entry)) in
    let none = λ (n : ℕ). ap (λ (l : List ℕ). count_of n l) (append-nil (spent_by entry)) in
    record {
      entries_are = ch.adds.entries_are ∙ ap (λ (l : List EntryView). l ++ entry ∷ []) ledger.entries_are ∙ append_assoc old.entries added (entry ∷ []);
      counted = omega (arith, ch.adds.added_is, ledger.counted, length-append added (entry ∷ []));
      even = λ n. omega (arith, count_got-append n added (entry ∷ []), count_spent-append n added (entry ∷ []), nil n, none n, ch.even n, ledger.even n);
      once = λ n. omega (arith, count_got-append n added (entry ∷ []), nil n, once_of now.next n (count_of n (opened_numbers added)) (count_of n (opened_by entry)) (ledger.once n) (ch.fresh.once n) (ledger.below n) (ch.fresh.above n));
      below = λ n le. let le' : now.next ≤ n = omega (arith, ch.fresh.newer) in omega (arith, count_got-append n added (entry ∷ []), nil n, ledger.below n le', ch.fresh.below n le);
      above = λ n lt. let lt' : n < now.next = omega (arith, ledger.next_grows) in omega (arith, count_got-append n added (entry ∷ []), nil n, ledger.above n lt, ch.fresh.above n lt');
      next_grows = omega (arith, ledger.next_grows, ch.fresh.newer);
      long = omega (arith, ledger.long, ch.long, ap (λ l. length l) (opened_numbers-append added (entry ∷ [])), ap (λ l. length l) (spent_numbers-append added (entry ∷ [])), length-append (opened_numbers added) (opened_numbers (entry ∷ [])), length-append (spent_numbers added) (spent_numbers (entry ∷ [])), ap (λ l. length l) (append-nil (opened_by entry)), ap (λ l. length l) (append-nil (spent_by entry)));
      room_is = omega (arith, ch.long, ledger.room_is, ch.adds.room_is);
      children_are = ch.children_are ∙ ap (λ (l : List ℕ). l ++ child_by entry) ledger.children_are ∙ sym (flat_map-append child_by added (entry ∷ []) ∙ ap (λ (l : List ℕ). children_in added ++ l) (append-nil (child_by entry)));
      feeds_are = ch.feeds_are ∙ ap (λ (l : List ℕ). l ++ feed_by entry) ledger.feeds_are ∙ sym (flat_map-append feed_by added (entry ∷ []) ∙ ap (λ (l : List ℕ). feeds_in added ++ l) (append-nil (feed_by entry)));
      drains_are = ch.drains_are ∙ ap (λ (l : List ℕ). l ++ drain_by entry) ledger.drains_are ∙ sym (flat_map-append drain_by added (entry ∷ []) ∙ ap (λ (l : List ℕ). drains_in added ++ l) (append-nil (drain_by entry)));
    }

take_front : {A : Type 0} (xs ys : List A) (count : ℕ) → count ≤ length xs
    → take count (xs ++ ys) ≡ take count xs
take_front [] ys zero low = refl
take_front [] ys (suc count) low = absurd (omega (arith, low))
take_front (x ∷ xs) ys zero low = refl
take_front (x ∷ xs) ys (suc count) low = ap (λ l. x ∷ l) (take_front xs ys count (omega (arith, low)))

take_whole : {A : Type 0} (xs : List A) (count : ℕ) → length xs ≤ count → take count xs ≡ xs
take_whole [] zero low = refl
take_whole [] (suc count) low = refl
take_whole (x ∷ xs) zero low = absurd (omega (arith, low))
take_whole (x ∷ xs) (suc count) low = ap (λ l. x ∷ l) (take_whole xs count (omega (arith, low)))

-- the bound on the ends that are held, after one more entry
few_more : (bound : ℕ) (old then : JournalView) (added : List EntryView) (entry : EntryView)
    (kept : ResourcesView) → OpenEndsWithin bound added → LedgerInvariant old then (added ++ entry ∷ []) kept →
    length (open_ends kept) ≤ bound + 8 → OpenEndsWithin bound (added ++ entry ∷ [])
few_more bound old then added entry kept few ledger low = λ count. elim (cases_lt (length added) count) [
  | inl lt ↦
      let whole = ap (λ l. length (opened_numbers l)) (take_whole (added ++ entry ∷ []) count (omega (arith, lt, length-append added (entry ∷ [])))) in
      let all = ap (λ l. length (spent_numbers l)) (take_whole (added ++ entry ∷ []) count (omega (arith, lt, length-append added (entry ∷ [])))) in
      omega (arith, whole, all, ledger.long, low)
  | inr le ↦ let same = ap (λ l. open_count l) (take_front added (entry ∷ []) count le) in omega (arith, few count, same)
]

-- the bound on the ends that are held now
pub few_now : {E H : Type 0} (allows : Allows H) (number_of : E → ℕ) (context : RunContext)
    (state : State E H) (now : JournalView) (held : ResourcesView)
    → RunInvariant allows number_of context state now held → length (open_ends held) ≤ context.bound + 8
few_now allows number_of context state now held invariant =
    let whole = ap (λ l. length (opened_numbers l)) (take_whole invariant.added (length invariant.added) (omega arith)) in
    let all = ap (λ l. length (spent_numbers l)) (take_whole invariant.added (length invariant.added) (omega arith)) in
    omega (arith, invariant.few (length invariant.added), whole, all, invariant.ledger.long)

pair_few : (o : Option (ℕ × ℕ)) → length (pipe_ends o) ≤ 2
pair_few None = omega arith
pair_few (Some pair) = omega arith

-- at most four ends are held besides those on the stack
pub few_of : (bound : ℕ) (held : ResourcesView) → length held.stack ≤ bound + 4
    → length (open_ends held) ≤ bound + 8
few_of bound held low =
    omega (arith, low, pair_few held.pipes.out, pair_few held.pipes.err, length-append held.stack (ends_of_pipes held.pipes), length-append (pipe_ends held.pipes.out) (pipe_ends held.pipes.err))

module _ {E H : Type 0} (allows : Allows H) (number_of : E → ℕ) (context : RunContext) (state then_state : State E H) (asked : List (Item E H)) (now then : JournalView) (held kept : ResourcesView)
    (entry : EntryView) (invariant : RunInvariant allows number_of context state now held) (items_are : then_state.plan.items ≡ state.plan.items ++ asked) (ch : Changes entry now then held kept) where
  abbrev pub then_added : List EntryView
  then_added = invariant.added ++ entry ∷ []

  -- where the held ends come from, whatever entries come after this one
  pub sources_now : (more : List EntryView) → IsLater context then.next more
      → HasOrigins (IsEarly context) number_of (then_added ++ more) state held
  sources_now more later =
      subst (λ (l : List EntryView). HasOrigins (IsEarly context) number_of l state held) (sym (append_assoc invariant.added (entry ∷ []) more))
      (invariant.sources (entry ∷ more) (later_more context now.next then.next entry more ch.fresh later))

  answers_then : ((more : List EntryView) → IsLater context then.next more → AnswersUnder context allows number_of (then_added ++ more) (length state.plan.items) asked (trace (entry ∷ []))) →
      (more : List EntryView) → IsLater context then.next more → AnswersUnder context allows number_of (then_added ++ more) 0 then_state.plan.items (trace then_added)
  answers_then matches = λ more later.
      let before : AnswersUnder context allows number_of (then_added ++ more) 0 state.plan.items (trace invariant.added) =
      subst (λ (l : List EntryView). AnswersUnder context allows number_of l 0 state.plan.items (trace invariant.added)) (sym (append_assoc invariant.added (entry ∷ []) more))
      (invariant.answers (entry ∷ more) (later_more context now.next then.next entry more ch.fresh later)) in
      subst (λ (l : List (Item E H)). AnswersUnder context allows number_of (then_added ++ more) 0 l (trace then_added)) (sym items_are)
      (subst (λ (l : List EntryView). AnswersUnder context allows number_of (then_added ++ more) 0 (state.plan.items ++ asked) l) (sym (trace-append invariant.added (entry ∷ [])))
      (answers-append (GivesUnder (IsEarly context) (then_added ++ more)) allows number_of (then_added ++ more) 0 state.plan.items asked (trace invariant.added) (trace (entry ∷ [])) (as_many invariant) before
      (subst (λ (k : ℕ). AnswersUnder context allows number_of (then_added ++ more) k asked (trace (entry ∷ []))) (omega arith) (matches more later))))

  -- one more entry, without a fault
  pub invariant_more : length (open_ends kept) ≤ context.bound + 8 → IsShaped then_state kept
      → fault_of entry ≡ None
      → map entry_kind (trace (entry ∷ [])) ≡ map item_kind asked
      → ((more : List EntryView) → IsLater context then.next more
      → AnswersUnder context allows number_of (then_added ++ more) (length state.plan.items) asked
      (trace (entry ∷ [])))
      → ((more : List EntryView) → IsLater context then.next more
      → HasOrigins (IsEarly context) number_of (then_added ++ more) then_state kept)
      → RunInvariant allows number_of context then_state then kept
  invariant_more few shaped clean kinds matches sourced = record {
    added = then_added;
    ledger = ledger_more context.old now then invariant.added entry held kept ch invariant.ledger;
    few = few_more context.bound context.old then invariant.added entry kept invariant.few (ledger_more context.old now then invariant.added entry held kept ch invariant.ledger) few;
    kinds = ap (λ (l : List EntryView). map entry_kind l) (trace-append invariant.added (entry ∷ [])) ∙ map-append entry_kind (trace invariant.added) (trace (entry ∷ []))
        ∙ (λ i. invariant.kinds i ++ kinds i) ∙ sym (ap (λ (l : List (Item E H)). map item_kind l) items_are ∙ map-append item_kind state.plan.items asked);
    shaped = shaped;
    begins = λ more. ap (λ (l : List EntryView). pairs_in (trace l)) (append_assoc invariant.added (entry ∷ []) more) ∙ invariant.begins (entry ∷ more);
    starts = (invariant.starts.0 ++ entry ∷ [], ap (λ (l : List EntryView). l ++ entry ∷ []) invariant.starts.1 ∙ append_assoc context.front invariant.starts.0 (entry ∷ []));
    answers = answers_then matches;
    sources = sourced;
    clean = clean_more invariant.added entry invariant.clean clean;
  }

  -- one more entry, with a fault
  pub stops_more : length (open_ends kept) ≤ context.bound + 8 → (fault : Fault)
      → fault_of entry ≡ Some fault
      → ((more : List EntryView) → IsLater context then.next more
      → AnswersUnder context allows number_of (then_added ++ more) (length state.plan.items) asked
      (trace (entry ∷ [])))
      → StopInvariant allows number_of context then_state.plan.items then kept (System fault)
  stops_more few fault refuses matches = record {
    added = then_added;
    ledger = ledger_more context.old now then invariant.added entry held kept ch invariant.ledger;
    few = few_more context.bound context.old then invariant.added entry kept invariant.few (ledger_more context.old now then invariant.added entry held kept ch invariant.ledger) few;
    answers = answers_then matches;
    ended = refused invariant.added entry fault invariant.clean refuses;
  }

-- entries that are later than a number are later than a smaller one
later_still : (context : RunContext) (next then : ℕ) (more : List EntryView) → next ≤ then
    → IsLater context then more → IsLater context next more
later_still context next then more le later = record { fresh = λ n lt. let lt' : n < then = omega (arith, le) in later.fresh n lt' }

-- no request was made, since an allocation failed
pub stops_unasked : {E H : Type 0} (allows : Allows H) (number_of : E → ℕ) (context : RunContext)
    (state : State E H) (items more_items : List (Item E H))
    (now then : JournalView) (held : ResourcesView) (error : Error) →
    RunInvariant allows number_of context state now held → items ≡ state.plan.items ++ more_items
    → AddsNothing now then → IsAllocationFailure error
    → StopInvariant allows number_of context items then held error
stops_unasked {E} {H} allows number_of context state items more_items now then held error invariant is nothing un =
    let b = invariant.ledger in
    let later = λ (more : List EntryView) (l : IsLater context then.next more). later_still context now.next then.next more nothing.next_grows l in
    record {
      added = invariant.added;
      ledger = record {
        entries_are = nothing.entries_are ∙ b.entries_are;
        counted = nothing.added_is ∙ b.counted;
        even = b.even;
        once = b.once;
        below = λ n le. let le' : now.next ≤ n = omega (arith, nothing.next_grows) in b.below n le';
        above = b.above;
        next_grows = omega (arith, b.next_grows, nothing.next_grows);
        long = b.long;
        room_is = omega (arith, b.room_is, nothing.room_grows);
        children_are = b.children_are;
        feeds_are = b.feeds_are;
        drains_are = b.drains_are;
      };
      few = invariant.few;
      answers = λ more l. subst (λ (x : List (Item E H)). AnswersUnder context allows number_of (invariant.added ++ more) 0 x (trace invariant.added)) (sym is)
          (answers_front (GivesUnder (IsEarly context) (invariant.added ++ more)) allows number_of (invariant.added ++ more) 0 state.plan.items more_items (trace invariant.added) (invariant.answers more (later more l)));
      ended = unasked invariant.clean un;
    }

-- A run that failed, and then closed all ends that it held, is a start that fails.
use Rattle.std.proofs.Common.{◌≡◌, ℕ, zero, suc, inl, inr, ◌+◌, ◌*◌, ◌-◌, ◌≤◌, List, [], ◌∷◌, ◌++◌, length, refl, ap, sym, ◌∙◌, arith, subst, append_assoc, length-append, false, map, not, slice_get, take, Some, None, option_and_then, Option}
use Rattle.duct_run.proofs.Common.{cases_lt, append-nil, take-append-le, filter-append, flat_map-append, EntryView, Environment, Pipe, OpenRead, Create, Duplicate, Parent, Canonicalize, Spawn, Feed, Drain, Reader, Close, JournalView, IsBalanced, opened_numbers, spent_numbers, open_count, count_of, children_in, child_by, segment, trace, is_close, IsClean, fault_of, StopsAtFault, Error, System, Checked, NotUtf8, Hook, HookEnd, Deadline, Memory, Fault, IsCausedOrMemory, ReturnsLastFault, StoppedBy, asked_in, last_fault, Allows, Refuses, Closes, StoppedWithCause, AsksPlan, Follows, ResourcesView, open_ends, Plan, AnswersUnder, RunContext, StopReason, OpenEndsWithin, IsEarly, IsHookError, IsLater, IsAllocationFailure, unasked, hooked, refused, AreEarlier, GotNew, KeepsFewOpen, StartRefused, depth, Item, TreeView, opened_numbers-append, spent_numbers-append, trace-append, count_got-append, count_spent-append}
use Rattle.std.proofs.Math.Seq.{take-append-add, take-length}
use Rattle.duct_run.proofs.Ceiling.{ceiling, ceiling_low}
use Rattle.duct_run.proofs.Stopping.{ended_stops}
use Rattle.duct_run.proofs.Sources.{exactly_answered, plan_asked}
use Rattle.duct_run.proofs.Whole.{segment_is, grows_by_added}

-- closes

closes_trace : (numbers : List ℕ) → trace (map Close numbers) ≡ []
closes_trace [] = refl
closes_trace (n ∷ numbers) = closes_trace numbers

closes_got : (numbers : List ℕ) → opened_numbers (map Close numbers) ≡ []
closes_got [] = refl
closes_got (n ∷ numbers) = closes_got numbers

closes_spent : (numbers : List ℕ) → spent_numbers (map Close numbers) ≡ numbers
closes_spent [] = refl
closes_spent (n ∷ numbers) = ap (λ (l : List ℕ). n ∷ l) (closes_spent numbers)

closes_asked : (numbers : List ℕ) → asked_in (map Close numbers) ≡ []
closes_asked [] = refl
closes_asked (n ∷ numbers) = closes_asked numbers

closes_long : (numbers : List ℕ) → length (map Close numbers) ≡ length numbers
closes_long [] = refl
closes_long (n ∷ numbers) = ap suc (closes_long numbers)

closes_taken : (count : ℕ) (numbers : List ℕ) → opened_numbers (take count (map Close numbers)) ≡ []
closes_taken zero numbers = refl
closes_taken (suc count) [] = refl
closes_taken (suc count) (n ∷ numbers) = closes_taken count numbers

module _ (added : List EntryView) (numbers : List ℕ) where
  abbrev closed : List EntryView
  closed = added ++ map Close numbers

  closed_trace : trace closed ≡ trace added
  closed_trace = trace-append added (map Close numbers) ∙ ap (λ (l : List EntryView). trace added ++ l) (closes_trace numbers) ∙ append-nil (trace added)

  closed_asked : asked_in closed ≡ asked_in added
  closed_asked = filter-append (λ entry. not (is_close entry)) added (map Close numbers) ∙ ap (λ (l : List EntryView). asked_in added ++ l) (closes_asked numbers) ∙ append-nil (asked_in added)

  closed_fault : last_fault closed ≡ last_fault added
  closed_fault = ap (λ (l : List EntryView). option_and_then fault_of (slice_get l (length l - 1))) closed_asked

  -- closes keep the bound on the ends that are held
  closed_few : (bound : ℕ) → OpenEndsWithin bound added → OpenEndsWithin bound closed
  closed_few bound few = λ count. elim (cases_lt (length added) count) [
    | inl lt ↦ past (count - length added) count (omega (arith, lt))
    | inr le ↦ let same = ap (λ l. open_count l) (take-append-le count added (map Close numbers) le) in omega (arith, few count, same)
  ]
    where
      past : (more count : ℕ) → count ≡ length added + more → open_count (take count closed) ≤ bound + 8
      past more count is =
          let front : take count closed ≡ added ++ take more (map Close numbers) = ap (λ (k : ℕ). take k closed) is ∙ take-append-add added (map Close numbers) more in
          let rest = take more (map Close numbers) in
          let whole = ap (λ (l : List EntryView). open_count l) (take-length added) in
          omega (
            arith,
            few (length added),
            whole,
            ap (λ (l : List EntryView). length (opened_numbers l)) front,
            ap (λ (l : List EntryView). length (spent_numbers l)) front,
            ap (λ (l : List ℕ). length l) (opened_numbers-append added rest),
            ap (λ (l : List ℕ). length l) (spent_numbers-append added rest),
            length-append (opened_numbers added) (opened_numbers rest),
            length-append (spent_numbers added) (spent_numbers rest),
            ap (λ (l : List ℕ). length l) (closes_taken more numbers),
          )

-- the last fault

some_is : (one other : Fault) → Some one ≡ Some other → one ≡ other
some_is one other e = cc

no_fault : (o : Option Fault) (fault : Fault) → o ≡ None → o ≡ Some fault → ⊥
no_fault o fault none some = cc

clean_asked : (added : List EntryView) (index : ℕ) → IsClean added
    → option_and_then fault_of (slice_get (asked_in added) index) ≡ None
clean_asked [] index clean = refl
clean_asked (Close number ∷ added) index clean = clean_asked added index clean.1
clean_asked (Environment answer ∷ added) zero clean = clean.0
clean_asked (Environment answer ∷ added) (suc index) clean = clean_asked added index clean.1
clean_asked (Pipe answer ∷ added) zero clean = clean.0
clean_asked (Pipe answer ∷ added) (suc index) clean = clean_asked added index clean.1
clean_asked (OpenRead path answer ∷ added) zero clean = clean.0
clean_asked (OpenRead path answer ∷ added) (suc index) clean = clean_asked added index clean.1
clean_asked (Create path answer ∷ added) zero clean = clean.0
clean_asked (Create path answer ∷ added) (suc index) clean = clean_asked added index clean.1
clean_asked (Duplicate lent answer ∷ added) zero clean = clean.0
clean_asked (Duplicate lent answer ∷ added) (suc index) clean = clean_asked added index clean.1
clean_asked (Parent side answer ∷ added) zero clean = clean.0
clean_asked (Parent side answer ∷ added) (suc index) clean = clean_asked added index clean.1
clean_asked (Canonicalize path answer ∷ added) zero clean = clean.0
clean_asked (Canonicalize path answer ∷ added) (suc index) clean = clean_asked added index clean.1
clean_asked (Spawn spec io answer ∷ added) zero clean = clean.0
clean_asked (Spawn spec io answer ∷ added) (suc index) clean = clean_asked added index clean.1
clean_asked (Feed end bytes answer ∷ added) zero clean = clean.0
clean_asked (Feed end bytes answer ∷ added) (suc index) clean = clean_asked added index clean.1
clean_asked (Drain end answer ∷ added) zero clean = clean.0
clean_asked (Drain end answer ∷ added) (suc index) clean = clean_asked added index clean.1
clean_asked (Reader end ∷ added) zero clean = clean.0
clean_asked (Reader end ∷ added) (suc index) clean = clean_asked added index clean.1

no_close : (entry : EntryView) (fault : Fault) → fault_of entry ≡ Some fault
    → is_close entry ≡ false
no_close (Close number) fault is = absurd (cc)
no_close (Environment answer) fault is = refl
no_close (Pipe answer) fault is = refl
no_close (OpenRead path answer) fault is = refl
no_close (Create path answer) fault is = refl
no_close (Duplicate lent answer) fault is = refl
no_close (Parent side answer) fault is = refl
no_close (Canonicalize path answer) fault is = refl
no_close (Spawn spec io answer) fault is = refl
no_close (Feed end bytes answer) fault is = refl
no_close (Drain end answer) fault is = refl
no_close (Reader end) fault is = refl

last_of : (front : List EntryView) (entry : EntryView)
    → slice_get (front ++ entry ∷ []) (length front) ≡ Some entry
last_of [] entry = refl
last_of (x ∷ front) entry = last_of front entry

last_is : (front : List EntryView) (entry : EntryView) (fault : Fault)
    → fault_of entry ≡ Some fault → last_fault (front ++ entry ∷ []) ≡ Some fault
last_is front entry fault is =
    let test = λ (e : EntryView). not (is_close e) in
    let one : asked_in (entry ∷ []) ≡ entry ∷ [] = rw (no_close entry fault is) refl in
    let all : asked_in (front ++ entry ∷ []) ≡ asked_in front ++ entry ∷ [] = filter-append test front (entry ∷ []) ∙ ap (λ (l : List EntryView). asked_in front ++ l) one in
    let index : length (asked_in front ++ entry ∷ []) - 1 ≡ length (asked_in front) = omega (arith, length-append (asked_in front) (entry ∷ [])) in
    ap (λ (l : List EntryView). option_and_then fault_of (slice_get l (length l - 1))) all
    ∙ ap (λ (k : ℕ). option_and_then fault_of (slice_get (asked_in front ++ entry ∷ []) k)) index
    ∙ ap (λ (o : Option EntryView). option_and_then fault_of o) (last_of (asked_in front) entry) ∙ is

ended_answers : (added : List EntryView) (error : Error) → StopReason added error
    → ReturnsLastFault added error
ended_answers added error (unasked clean un) = λ fault is. absurd (no_fault (last_fault added) fault (clean_asked added (length (asked_in added) - 1) clean) is)
ended_answers added error (hooked clean hooks) = λ fault is. absurd (no_fault (last_fault added) fault (clean_asked added (length (asked_in added) - 1) clean) is)
ended_answers added error (refused front entry fault clean is) = λ other last. ap System (some_is fault other (sym (last_is front entry fault is) ∙ last))

-- the cause

module _ {E H : Type 0} (allows : Allows H) (refuses : Refuses H) (number_of : E → ℕ) (plan : Plan E H) (entries : List EntryView) where
  abbrev Caused : Error → Type 0
  Caused error = IsCausedOrMemory allows refuses number_of plan entries error

  cause_unasked : (error : Error) → IsAllocationFailure error → Caused error
  cause_unasked (System fault) un = inl un
  cause_unasked (Checked text) un = absurd un
  cause_unasked NotUtf8 un = absurd un
  cause_unasked (Hook fault) un = absurd un
  cause_unasked (HookEnd place) un = absurd un
  cause_unasked Deadline un = absurd un
  cause_unasked Memory un = tt

  cause_hooked : (error : Error) → IsHookError error
      → (IsHookError error → StoppedBy allows refuses number_of (trace entries) (length (trace entries)) (slice_get plan.items (length (trace entries))) error) → Caused error
  cause_hooked (System fault) is cause = absurd is
  cause_hooked (Checked text) is cause = absurd is
  cause_hooked NotUtf8 is cause = absurd is
  cause_hooked (Hook fault) is cause = cause tt
  cause_hooked (HookEnd place) is cause = cause tt
  cause_hooked Deadline is cause = absurd is
  cause_hooked Memory is cause = absurd is

  cause_ended : (added : List EntryView) (error : Error) → StopReason added error
      → last_fault entries ≡ last_fault added
      → (IsHookError error → StoppedBy allows refuses number_of (trace entries) (length (trace entries)) (slice_get plan.items (length (trace entries))) error) → Caused error
  cause_ended added error (unasked clean un) same cause = cause_unasked error un
  cause_ended added error (hooked clean is) same cause = cause_hooked error is cause
  cause_ended added error (refused front entry fault clean is) same cause = inr (same ∙ last_is front entry fault is)

-- a start that failed, by its run and the closes after it

module _ {E H : Type 0} (allows : Allows H) (refuses : Refuses H) (number_of : E → ℕ) (tree : TreeView E H) (plan : Plan E H) (context : RunContext) (items : List (Item E H)) (now then : JournalView)
    (held : ResourcesView) (error : Error) (run : StoppedWithCause allows refuses number_of context items now held error) (numbers : List ℕ)
    (base_is : context.base ≡ ceiling number_of tree) (bound_is : context.bound ≡ 2 * depth tree + 4) (items_are : plan.items ≡ items)
    (same : (n : ℕ) → count_of n numbers ≡ count_of n (open_ends held)) (many : length numbers ≡ length (open_ends held))
    (entries_are : then.entries ≡ now.entries ++ map Close numbers) (counted : then.added ≡ now.added + length numbers) (next : now.next ≤ then.next) (room : now.room ≤ then.room + length numbers) where
  abbrev first : List EntryView
  first = run.stopped.added

  abbrev all : List EntryView
  all = first ++ map Close numbers

  all_are : then.entries ≡ context.old.entries ++ all
  all_are = entries_are ∙ ap (λ (l : List EntryView). l ++ map Close numbers) run.stopped.ledger.entries_are ∙ append_assoc context.old.entries first (map Close numbers)

  closes_later : IsLater context now.next (map Close numbers)
  closes_later = record { fresh = λ n lt. ap (λ (l : List ℕ). count_of n l) (closes_got numbers) }

  early : AreEarlier number_of context.old tree → IsEarly context
  early earlier = omega (arith, base_is, ceiling_low number_of tree context.old earlier)

  all_answered : AnswersUnder context allows number_of all 0 plan.items (trace all)
  all_answered =
      subst (λ (l : List (Item E H)). AnswersUnder context allows number_of all 0 l (trace all)) (sym items_are)
      (subst (λ (l : List EntryView). AnswersUnder context allows number_of all 0 items l) (sym (closed_trace first numbers)) (run.stopped.answers (map Close numbers) closes_later))

  all_asked : AsksPlan allows number_of plan all
  all_asked = plan_asked context allows number_of all plan.items (trace all) all_answered

  all_follow : AreEarlier number_of context.old tree → Follows allows number_of plan all
  all_follow earlier = record {
    answers = exactly_answered context allows number_of all plan.items (trace all) (early earlier) all_answered;
    stops = ended_stops first error numbers run.stopped.ended;
  }

  all_caused : IsCausedOrMemory allows refuses number_of plan all error
  all_caused = cause_ended allows refuses number_of plan all first error run.stopped.ended (closed_fault first numbers)
      (λ is.
      subst (λ (l : List (Item E H)). StoppedBy allows refuses number_of (trace all) (length (trace all)) (slice_get l (length (trace all))) error) (sym items_are)
      (subst (λ (k : ℕ). StoppedBy allows refuses number_of (trace all) k (slice_get items k) error) (ap (λ (l : List EntryView). length l) (sym (closed_trace first numbers)))
      (run.cause is (map Close numbers) closes_later)))

  all_balanced : IsBalanced all
  all_balanced n =
      let ledger = run.stopped.ledger in
      let got_more = count_got-append n first (map Close numbers) in
      let spent_more = count_spent-append n first (map Close numbers) in
      let none = ap (λ (l : List ℕ). count_of n l) (closes_got numbers) in
      let some = ap (λ (l : List ℕ). count_of n l) (closes_spent numbers) in
      (omega (arith, got_more, spent_more, none, some, same n, ledger.even n), omega (arith, got_more, none, ledger.once n))

  -- a run that failed is a start that fails, once all ends that it held are closed
  pub refused_start : StartRefused allows refuses number_of tree plan context.old then error
  refused_start =
      let ledger = run.stopped.ledger in
      let segment_same = sym (segment_is context.old.entries then.entries all all_are) in record {
        grows = grows_by_added context.old then all all_are
            (omega (arith, counted, ledger.counted, length-append first (map Close numbers), closes_long numbers))
            (omega (arith, next, ledger.next_grows)) (omega (arith, room, many, ledger.room_is));
        stops = subst StopsAtFault segment_same (ended_stops first error numbers run.stopped.ended);
        asks = subst (λ (l : List EntryView). AsksPlan allows number_of plan l) segment_same all_asked;
        follows = λ earlier. subst (λ (l : List EntryView). Follows allows number_of plan l) segment_same (all_follow earlier);
        cause = subst (λ (l : List EntryView). IsCausedOrMemory allows refuses number_of plan l error) segment_same all_caused;
        last_fault = subst (λ (l : List EntryView). ReturnsLastFault l error) segment_same (λ fault is. ended_answers first error run.stopped.ended fault (sym (closed_fault first numbers) ∙ is));
        balanced = subst IsBalanced segment_same all_balanced;
        got_new = subst (λ (l : List EntryView). GotNew context.old l) segment_same
            (λ n lt. omega (arith, count_got-append n first (map Close numbers), ap (λ (l : List ℕ). count_of n l) (closes_got numbers), ledger.above n lt));
        few = subst (λ (l : List EntryView). KeepsFewOpen tree l) segment_same (λ count. omega (arith, bound_is, closed_few first numbers context.bound run.stopped.few count));
      }

closes_children : (numbers : List ℕ) → children_in (map Close numbers) ≡ []
closes_children [] = refl
closes_children (n ∷ numbers) = closes_children numbers

-- there is room to close all that is held
pub refused_room : {E H : Type 0} (allows : Allows H) (refuses : Refuses H) (number_of : E → ℕ)
    (context : RunContext) (items : List (Item E H)) (now : JournalView) (held : ResourcesView)
    (error : Error) → StoppedWithCause allows refuses number_of context items now held error
    → length (open_ends held) ≤ now.room
refused_room allows refuses number_of context items now held error run = omega (arith, run.stopped.ledger.room_is)

-- the same, where all ends that were held were closed in some order
module _ {E H : Type 0} (allows : Allows H) (refuses : Refuses H) (number_of : E → ℕ) (context : RunContext) (items : List (Item E H)) (now then : JournalView) (held : ResourcesView) (error : Error)
    (run : StoppedWithCause allows refuses number_of context items now held error) (numbers : List ℕ)
    (same : (n : ℕ) → count_of n numbers ≡ count_of n (open_ends held)) (many : length numbers ≡ length (open_ends held)) (closes : Closes numbers now then) where
  pub refused_closed : (tree : TreeView E H) (plan : Plan E H)
      → context.base ≡ ceiling number_of tree → context.bound ≡ 2 * depth tree + 4
      → plan.items ≡ items
      → StartRefused allows refuses number_of tree plan context.old then error
  refused_closed tree plan base_is bound_is items_are =
      refused_start allows refuses number_of tree plan context items now then held error run numbers base_is bound_is items_are same many
      closes.entries_are closes.counted closes.next_grows closes.room_is

  -- the children that are held are those that were started
  pub refused_children : held.children
      ≡ children_in (segment context.old.entries then.entries)
  refused_children =
      let added = run.stopped.added in
      let ledger = run.stopped.ledger in
      let entries_are : then.entries ≡ context.old.entries ++ (added ++ map Close numbers) =
      closes.entries_are ∙ ap (λ (l : List EntryView). l ++ map Close numbers) ledger.entries_are ∙ append_assoc context.old.entries added (map Close numbers) in
      sym
      (ap (λ (l : List EntryView). children_in l) (segment_is context.old.entries then.entries (added ++ map Close numbers) entries_are)
      ∙ flat_map-append child_by added (map Close numbers) ∙ ap (λ (l : List ℕ). children_in added ++ l) (closes_children numbers) ∙ append-nil (children_in added)
      ∙ sym ledger.children_are)

-- What the journal below has when a guard notes one more entry, and what follows from it.
use Rattle.std.proofs.Common.{◌≡◌, refl, ap, sym, subst, ◌∙◌, arith, append_assoc, ◌+◌, ◌≤◌, ◌⊎◌, inl, inr, ℕ, List, [], ◌∷◌, ◌++◌, Bool, true, false, ◌&&◌, ◌||◌, length, map, take, nat_le, Ok, Err, IfOk, IfErr, Some, Option, Result}
use Rattle.std.proofs.lemmas.Bool.{and_parts}
use Rattle.duct_guard.proofs.Common.{append-nil, length-take, list_all-append, ∥∥₁_map, ∥∥₁_elim, EntryView, Environment, Pipe, Canonicalize, Spawn, Close, answer_of, JournalView, Adds, AddsNothing, GetsEnds, IsNew, IsRefused, opened_by, spent_by, SpecView, Vars, ends_of, Fault, Stdio, AreAllowed, AreDenied, Rules, canonicalize, is_allowed, is_denial, spawn, AddsAll, ClosesFirst, Crowded, Forwards, ForwardsAll, IsForwarded, LostPath, LostVars, Passed, Refused, allows_spawn, may_ask, refusal, GotEnd, asked_of, end_entry, child_by, held_after, is_within, with_entry, Held}
use Rattle.std.proofs.Math.Nat.{le_refl}
use mathlib.Core.Bool.{Bool-set}
use Rattle.duct_system.specs.Trace.{fault_of}
use Rattle.duct_system.specs.declared.system.Kind.{Kind}
use Rattle.duct_guard.specs.declared.requests.EndRequest.{EndRequest}
use Rattle.duct_guard.specs.declared.requests.EndRequest.TheVariants as asks

module _ (rules : Rules) where
  append_one : (held : Held) (entries below : List EntryView) (entry : EntryView)
      (asked : List EntryView) → ForwardsAll rules held entries below
      → Forwards rules (held_after held entries) entry asked
      → ForwardsAll rules held (entries ++ entry ∷ []) (below ++ asked)
  append_one held [] below entry asked none one =
      (asked, [], ap (λ l. l ++ asked) none ∙ sym (append-nil asked), one, refl)
  append_one held (e ∷ es) below entry asked all one =
      (all.0, all.1 ++ asked, ap (λ l. l ++ asked) all.2 ∙ append_assoc all.0 all.1 asked, all.3, append_one (with_entry held e) es all.1 entry asked all.4 one)

  -- a guard that noted nothing yet, over an empty journal
  pub nothing_noted : (held : Held) (own below : List EntryView) → own ≡ [] → below ≡ []
      → ∥ ForwardsAll rules held own below ∥₁
  nothing_noted held own below none empty = ∣ subst (λ l. ForwardsAll rules held l below) (sym none) empty ∣₁

  -- a guard that noted one more entry
  pub one_noted : (earlier held : Held) (own more : List EntryView) (entry : EntryView)
      (old new : JournalView) → ∥ ForwardsAll rules earlier own old.entries ∥₁
      → held ≡ held_after earlier own → IsForwarded rules held entry old new
      → more ≡ own ++ entry ∷ [] → ∥ ForwardsAll rules earlier more new.entries ∥₁
  one_noted earlier held own more entry old new forwards counted forwarded is =
      let sent : Forwards rules (held_after earlier own) entry forwarded.asked = subst (λ h. Forwards rules h entry forwarded.asked) counted forwarded.forwards in
      rw (is, forwarded.adds.entries_are) (∥∥₁_map forwards (λ all. append_one earlier own old.entries entry forwarded.asked all sent))

-- one entry was added, or none, which takes fewer ends than this
one_added : (entry : EntryView) (got given : ℕ) (old new : JournalView)
    → Adds entry got given old new → AddsAll (entry ∷ []) got given old new
one_added entry got given old new adds = record {
  entries_are = adds.entries_are;
  added_is = adds.added_is;
  next_grows = adds.next_grows;
  room_is = adds.room_is;
}

none_added : (given : ℕ) (old new : JournalView) → AddsNothing old new → AddsAll [] 0 given old new
none_added given old new nothing = record {
  entries_are = nothing.entries_are ∙ sym (append-nil old.entries);
  added_is = let same = nothing.added_is in omega (arith, same);
  next_grows = nothing.next_grows;
  room_is = let grows = nothing.room_grows in omega (arith, grows);
}

-- the first of some ends were closed
some_closed : (room : ℕ) (numbers : List ℕ) (old new : JournalView)
    → ClosesFirst room numbers old new
    → AddsAll (map Close (take room numbers)) 0 (length numbers) old new
some_closed room numbers old new closes = record {
  entries_are = closes.entries_are;
  added_is = closes.added_is;
  next_grows = closes.next_grows;
  room_is =
      let kept = closes.room_is in let few = length-take room numbers in omega (arith, kept, few);
}

module _ (rules : Rules) (held : Held) where
  -- an allowed request that was passed on
  pub passed : (entry : EntryView) (old new : JournalView) → may_ask rules held entry ≡ true
      → Adds entry (length (opened_by entry)) (length (spent_by entry)) old new
      → IsForwarded rules held entry old new
  passed entry old new allowed adds = record {
    asked = entry ∷ [];
    forwards = Passed allowed refl;
    adds = one_added entry _ _ old new adds;
  }

  -- a request that takes no end and was not asked
  pub unasked : (entry : EntryView) (old new : JournalView)
      → fault_of entry ≡ Some (refusal (may_ask rules held entry)) → opened_by entry ≡ []
      → AddsNothing old new → IsForwarded rules held entry old new
  unasked entry old new fault opened nothing = record {
    asked = [];
    forwards = Refused 0 fault refl;
    adds = rw opened (none_added (length (spent_by entry)) old new nothing);
  }

  -- an allowed request that failed below
  pub failed : (entry : EntryView) (fault : Fault) (old new : JournalView)
      → may_ask rules held entry ≡ true → fault_of entry ≡ Some fault → opened_by entry ≡ []
      → IsRefused entry (length (spent_by entry)) fault old new → IsForwarded rules held entry old new
  failed entry fault old new allowed is opened (inl adds) =
      passed entry old new allowed (subst (λ l. Adds entry (length l) (length (spent_by entry)) old new) (sym opened) adds)
  failed entry fault old new allowed is opened (inr refused) =
      let of : Kind → Fault = λ kind. record { kind = kind } in
      unasked entry old new (rw (is, allowed) (ap (λ kind. Some (of kind)) refused.2)) opened refused.1

  -- a request that was refused here, whose ends were closed
  pub closed : (entry : EntryView) (room : ℕ) (old new : JournalView)
      → fault_of entry ≡ Some (refusal (may_ask rules held entry)) → opened_by entry ≡ []
      → ClosesFirst room (spent_by entry) old new → IsForwarded rules held entry old new
  closed entry room old new fault opened closes = record {
    asked = map Close (take room (spent_by entry));
    forwards = Refused room fault refl;
    adds = rw opened (some_closed room (spent_by entry) old new closes);
  }

  -- a request for a worker that was refused here, whose end was closed
  pub one_closed : (entry : EntryView) (n : ℕ) (fault : Fault) (old new : JournalView)
      → may_ask rules held entry ≡ true → fault_of entry ≡ Some fault → fault ≡ refusal true
      → opened_by entry ≡ [] → spent_by entry ≡ n ∷ [] → Adds (Close n) 0 1 old new
      → IsForwarded rules held entry old new
  one_closed entry n fault old new allowed noted is opened one adds = record {
    asked = Close n ∷ [];
    forwards = Refused 1 (rw (noted, is, allowed) refl) (rw one refl);
    adds = rw (opened, one) (one_added (Close n) 0 1 old new adds);
  }

  -- the result of a request for a pipe
  pub pipe_answered : {E : Type 0} (number : E → ℕ) (old new : JournalView)
      (made : Result (E × E) Fault) → nat_le (held.ends + 2) rules.limits.ends ≡ true
      → IfOk made (λ ends. GetsEnds (Pipe (Ok (number ends.0, number ends.1))) (number ends.0)
      (number ends.1) old new)
      → IfErr made (λ fault. IsRefused (Pipe (Err fault)) 0 fault old new)
      → IsForwarded rules held (Pipe (answer_of (λ ends. (number ends.0, number ends.1)) made)) old new
  pipe_answered number old new (Ok ends) allowed ok err = passed _ old new allowed ok.0
  pipe_answered number old new (Err fault) allowed ok err =
      failed (Pipe (Err fault)) fault old new allowed refl refl err

  -- the result of a request for a worker, which takes an end
  pub worker_answered : {J : Type 0} (entry : Result (Unit {0}) Fault → EntryView) (n : ℕ)
      (old new : JournalView) (made : Result J Fault)
      → ((answer : Result (Unit {0}) Fault) → may_ask rules held (entry answer) ≡ true)
      → ((answer : Result (Unit {0}) Fault) → opened_by (entry answer) ≡ [])
      → ((answer : Result (Unit {0}) Fault) → spent_by (entry answer) ≡ n ∷ [])
      → IfOk made (λ job. Adds (entry (Ok tt)) 0 1 old new)
      → IfErr made (λ fault. Adds (entry (Err fault)) 0 1 old new)
      → IsForwarded rules held (entry (answer_of (λ job. tt) made)) old new
  worker_answered entry n old new (Ok job) allowed none closed ok err =
      passed (entry (Ok tt)) old new (allowed (Ok tt)) (rw (none (Ok tt), closed (Ok tt)) ok)
  worker_answered entry n old new (Err f) allowed none closed ok err =
      passed (entry (Err f)) old new (allowed (Err f)) (rw (none (Err f), closed (Err f)) err)

  -- the result of a spawn by a copy of the spec
  pub child_answered : {C : Type 0} (number : C → ℕ) (spec copy : SpecView)
      (io : List (Stdio ℕ)) (count : ℕ) (old new : JournalView) (made : Result C Fault)
      → allows_spawn rules held spec ≡ true → spec ≡ copy → length (ends_of io) ≡ count
      → IfOk made (λ child. Adds (Spawn copy io (Ok (number child))) 0 count old new
      × IsNew old new (number child))
      → IfErr made (λ fault. IsRefused (Spawn copy io (Err fault)) count fault old new)
      → IsForwarded rules held (Spawn spec io (answer_of number made)) old new
  child_answered number spec copy io count old new (Ok child) allowed same counted ok err =
      passed (Spawn spec io (Ok (number child))) old new allowed (rw (same, counted) ok.0)
  child_answered number spec copy io count old new (Err fault) allowed same counted ok err =
      failed (Spawn spec io (Err fault)) fault old new allowed refl refl (rw (same, counted) err)

  -- a spawn that was refused here, also for as many children that run, whose ends were closed
  pub child_refused : (spec : SpecView) (io : List (Stdio ℕ)) (room running : ℕ) (fault : Fault)
      (old new : JournalView)
      → (fault ≡ refusal (allows_spawn rules held spec))
      ⊎ ((fault ≡ refusal false) × (rules.at_once ≤ running)) → running ≤ held.children
      → ClosesFirst room (ends_of io) old new
      → IsForwarded rules held (Spawn spec io (Err fault)) old new
  child_refused spec io room running fault old new (inl is) few closes =
      closed (Spawn spec io (Err fault)) room old new (ap (λ fault. Some fault) is) refl closes
  child_refused spec io room running fault old new (inr full) few closes = record {
    asked = map Close (take room (ends_of io));
    forwards = Crowded room spec io (ap (λ fault. Spawn spec io (Err fault)) full.0) (let most = full.1 in omega (arith, most, few)) refl;
    adds = some_closed room (ends_of io) old new closes;
  }

  -- the environment, and a canonical path, for whose copy there was no memory
  pub lost_vars : (vars : Vars) (fault : Fault) (old new : JournalView) → fault ≡ refusal true
      → Adds (Environment (Ok vars)) 0 0 old new
      → IsForwarded rules held (Environment (Err fault)) old new
  lost_vars vars fault old new is adds = record {
    asked = Environment (Ok vars) ∷ [];
    forwards = LostVars vars (ap (λ f. Environment (Err f)) is) refl;
    adds = one_added _ 0 0 old new adds;
  }

  pub lost_path : (path name : List ℕ) (fault : Fault) (old new : JournalView)
      → rules.allows (canonicalize path) ≡ true → fault ≡ refusal true
      → Adds (Canonicalize path (Ok name)) 0 0 old new
      → IsForwarded rules held (Canonicalize path (Err fault)) old new
  lost_path path name fault old new allowed is adds = record {
    asked = Canonicalize path (Ok name) ∷ [];
    forwards = LostPath path name allowed (ap (λ f. Canonicalize path (Err f)) is) refl;
    adds = one_added _ 0 0 old new adds;
  }

  -- a request that is forbidden and takes no end
  pub forbidden : (entry : EntryView) (fault : Fault) (view : JournalView)
      → may_ask rules held entry ≡ false → fault_of entry ≡ Some fault → fault ≡ refusal false
      → opened_by entry ≡ [] → IsForwarded rules held entry view view
  forbidden entry fault view denied noted is opened =
      unasked entry view view (rw (noted, is, denied) refl) opened (record
      { entries_are = refl; added_is = refl; next_grows = le_refl view.next; room_grows = le_refl view.room })

module _ (rules : Rules) where
  closes_allowed : (numbers : List ℕ) → AreAllowed rules (map Close numbers)
  closes_allowed [] = refl
  closes_allowed (n ∷ ns) = closes_allowed ns

  asked_allowed : (held : Held) (entry : EntryView) (asked : List EntryView) → Forwards rules held entry asked
      → AreAllowed rules asked
  asked_allowed held entry asked (Passed allowed is) =
      rw (is, (and_parts (is_allowed rules entry) (is_within rules.limits held entry) allowed).0) refl
  asked_allowed held entry asked (Refused count fault is) =
      subst (AreAllowed rules) (sym is) (closes_allowed (take count (spent_by entry)))
  asked_allowed held entry asked (Crowded count spec io noted full is) =
      subst (AreAllowed rules) (sym is) (closes_allowed (take count (spent_by entry)))
  asked_allowed held entry asked (LostVars vars noted is) = rw is refl
  asked_allowed held entry asked (LostPath path name allowed noted is) = rw (is, allowed) refl

  both_allowed : (one other : List EntryView) → AreAllowed rules one → AreAllowed rules other
      → AreAllowed rules (one ++ other)
  both_allowed one other first second = rw (list_all-append (is_allowed rules) one other, first) second

  all_allowed : (held : Held) (entries below : List EntryView) → ForwardsAll rules held entries below
      → AreAllowed rules below
  all_allowed held [] below none = rw none refl
  all_allowed held (e ∷ es) below all =
      rw all.2 (both_allowed all.0 all.1 (asked_allowed held e all.0 all.3) (all_allowed (with_entry held e) es all.1 all.4))

  denial : (allowed fits : Bool) (fault : Option Fault) → fault ≡ Some (refusal (allowed && fits))
      → (allowed || is_denial fault) ≡ true
  denial true fits fault is = refl
  denial false fits fault is = rw is refl

  denied_anyway : (allowed : Bool) → (allowed || true) ≡ true
  denied_anyway true = refl
  denied_anyway false = refl

  entry_denied : (held : Held) (entry : EntryView) (asked : List EntryView) → Forwards rules held entry asked
      → (is_allowed rules entry || is_denial (fault_of entry)) ≡ true
  entry_denied held entry asked (Passed allowed is) =
      rw (and_parts (is_allowed rules entry) (is_within rules.limits held entry) allowed).0 refl
  entry_denied held entry asked (Refused count fault is) =
      denial (is_allowed rules entry) (is_within rules.limits held entry) (fault_of entry) fault
  entry_denied held entry asked (Crowded count spec io noted full is) =
      rw noted (denied_anyway (rules.allows (spawn spec)))
  entry_denied held entry asked (LostVars vars noted is) = rw noted refl
  entry_denied held entry asked (LostPath path name allowed noted is) = rw (noted, allowed) refl

  all_denied : (held : Held) (entries below : List EntryView) → ForwardsAll rules held entries below
      → AreDenied rules entries
  all_denied held [] below none = refl
  all_denied held (e ∷ es) below all = rw (entry_denied held e all.0 all.3) (all_denied (with_entry held e) es all.1 all.4)

  -- the journal below has allowed requests alone
  pub below_allowed : (held : Held) (own below : List EntryView) → ∥ ForwardsAll rules held own below ∥₁
      → AreAllowed rules below
  below_allowed held own below forwards = ∥∥₁_elim forwards (Bool-set _ _) (all_allowed held own below)

  -- each forbidden request of the guard was denied
  pub own_denied : (held : Held) (own below : List EntryView) → ∥ ForwardsAll rules held own below ∥₁
      → AreDenied rules own
  own_denied held own below forwards = ∥∥₁_elim forwards (Bool-set _ _) (all_denied held own below)

-- entries of a request that opens an end, if it doesn't fail, and does nothing else
pub record OpensEnd (entry : Result ℕ Fault → EntryView) : Type 0 where
  pub opened : (n : ℕ) → opened_by (entry (Ok n)) ≡ n ∷ []
  pub unopened : (fault : Fault) → opened_by (entry (Err fault)) ≡ []
  pub spent : (answer : Result ℕ Fault) → spent_by (entry answer) ≡ []
  pub started : (answer : Result ℕ Fault) → child_by (entry answer) ≡ []
  pub told : (fault : Fault) → fault_of (entry (Err fault)) ≡ Some fault

module _ {E : Type 0} (number : E → ℕ) where
  pub opens_end : (asked : EndRequest E) → OpensEnd (end_entry number asked)
  opens_end (asks.Read path) =
      record { opened = λ n. refl; unopened = λ f. refl; spent = λ a. refl; started = λ a. refl; told = λ f. refl }
  opens_end _ =
      record { opened = λ n. refl; unopened = λ f. refl; spent = λ a. refl; started = λ a. refl; told = λ f. refl }

  asks_end : (rules : Rules) (held : Held) (asked : EndRequest E) (answer : Result ℕ Fault)
      → may_ask rules held (end_entry number asked answer)
      ≡ (rules.allows (asked_of asked) && nat_le (held.ends + 1) rules.limits.ends)
  asks_end rules held (asks.Read path) answer = refl
  asks_end rules held _ answer = refl

  -- the request was made
  pub end_answered : {rules : Rules} {held : Held} {old new : JournalView} (asked : EndRequest E)
      (made : Result E Fault) → (rules.allows (asked_of asked) && nat_le (held.ends + 1) rules.limits.ends) ≡ true
      → GotEnd number (end_entry number asked) made old new
      → IsForwarded rules held (end_entry number asked (answer_of number made)) old new
  end_answered {rules = rules} {held = held} asked (Ok end) allowed got =
      let opens = opens_end asked in
      let entry = end_entry number asked (Ok (number end)) in
      passed rules held entry _ _ (asks_end rules held asked _ ∙ allowed)
      (rw (opens.opened (number end), opens.spent (Ok (number end))) got.ok.0)
  end_answered {rules = rules} {held = held} asked (Err fault) allowed got =
      let opens = opens_end asked in
      failed rules held _ fault _ _ (asks_end rules held asked _ ∙ allowed) (opens.told fault)
      (opens.unopened fault) (rw (opens.spent (Err fault)) got.err)

  -- it was not
  pub end_forbidden : {rules : Rules} {held : Held} {view : JournalView} (asked : EndRequest E)
      (fault : Fault) → (rules.allows (asked_of asked) && nat_le (held.ends + 1) rules.limits.ends) ≡ false
      → fault ≡ refusal false
      → IsForwarded rules held (end_entry number asked (Err fault)) view view
  end_forbidden {rules = rules} {held = held} asked fault denied is =
      let opens = opens_end asked in
      forbidden rules held _ fault _ (asks_end rules held asked _ ∙ denied) (opens.told fault) is (opens.unopened fault)

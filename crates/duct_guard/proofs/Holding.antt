-- What a guard holds after an entry, part by part, and that it never exceeds its policy's limits.
use Rattle.std.proofs.Common.{◌≡◌, refl, ap, sym, subst, ◌∙◌, arith, ◌-◌, ◌≤◌, length-append, ℕ, Bool, List, [], ◌∷◌, ◌++◌, ◌+◌, ◌&&◌, true, false, length, nat_le, Ok, Err, OnOk, Some, if◌then◌else◌, Result}
use Rattle.std.proofs.lemmas.Bool.{and_parts, leb-true}
use Rattle.duct_guard.proofs.Common.{nil_from_length, ∥∥₁_elim, EntryView, Pipe, OpenRead, Create, Duplicate, Parent, Spawn, opened_by, spent_by, ends_of, Fault, Rules, is_allowed, Forwards, Passed, Refused, Crowded, LostVars, LostPath, ForwardsAll, child_by, counts_of, started_by, with_children, with_ends, with_entry, held_after, is_within, Fits, AlwaysFits, without_end, without_ends, IsBegun, nothing_held, Held}
use Rattle.std.proofs.Math.Bool.{and-true}
use Rattle.std.proofs.Math.Bridge.{le_prop}
use Rattle.duct_system.specs.Trace.{fault_of}
use Rattle.duct_guard.specs.declared.counts.Counts.{Counts}

opened_children : (held : Held) (numbers : List ℕ) → (with_ends held numbers).children ≡ held.children
opened_children held [] = refl
opened_children held (number ∷ numbers) = opened_children (with_ends held (number ∷ [])) numbers

one_less : (held : Held) (is_own : Bool)
    → ((if is_own then record held { ends = held.ends - 1 } else held).ends ≤ held.ends)
    × ((if is_own then record held { ends = held.ends - 1 } else held).children ≡ held.children)
one_less held true = (omega arith, refl)
one_less held false = (omega arith, refl)

-- ends that a request took make it no more, and change no count of children
pub spent_less : (held : Held) (numbers : List ℕ)
    → ((without_ends held numbers).ends ≤ held.ends)
    × ((without_ends held numbers).children ≡ held.children)
spent_less held [] = (omega arith, refl)
spent_less held (number ∷ numbers) =
    let one = one_less held (nat_le held.first number) in
    let rest = spent_less (without_end held number) numbers in
    let fewer = one.0 in
    let fewest = rest.0 in (omega (arith, fewer, fewest), rest.1 ∙ one.1)

-- the children that were started after an entry
pub children_now : (held : Held) (entry : EntryView)
    → (with_entry held entry).children ≡ held.children + started_by entry
children_now held entry =
    ap (λ count. count + started_by entry)
    ((spent_less (with_ends held (opened_by entry)) (spent_by entry)).1 ∙ opened_children held (opened_by entry))

pub none_started : (held : Held) → with_children held 0 ≡ held
none_started held =
    let same : held.children + 0 ≡ held.children = omega arith in
    λ i. record { ends = held.ends; children = same i; first = held.first }

-- what is held after an entry that starts no child
pub entry_is : (held : Held) (entry : EntryView) → child_by entry ≡ []
    → without_ends (with_ends held (opened_by entry)) (spent_by entry) ≡ with_entry held entry
entry_is held entry none =
    let now = without_ends (with_ends held (opened_by entry)) (spent_by entry) in
    sym (none_started now) ∙ ap (λ children. with_children now (length children)) (sym none)

-- what was held when the journal was cleared last: a new guard
pub begun_first : (earlier : Held) (added : ℕ) (entries : List EntryView) → entries ≡ [] → earlier ≡ nothing_held
    → IsBegun earlier added entries
begun_first earlier added entries none is =
    record { long = rw none (omega arith); nothing = λ _. is }

-- one more entry was added
pub begun_still : (earlier : Held) (added now : ℕ) (entries more : List EntryView) (entry : EntryView)
    → IsBegun earlier added entries → more ≡ entries ++ entry ∷ [] → now ≡ added + 1
    → IsBegun earlier now more
begun_still earlier added now entries more entry begun is count =
    let one = ap length is ∙ length-append entries (entry ∷ []) in
    record {
      long = omega (arith, one, count, begun.long);
      nothing = λ all. begun.nothing (omega (arith, one, count, all));
    }

-- the journal was cleared
pub begun_again : (earlier held : Held) (added : ℕ) (entries : List EntryView) (now : ℕ) (left : List EntryView)
    → IsBegun earlier added entries → held ≡ held_after earlier entries → now ≡ added → left ≡ [] → IsBegun held now left
begun_again earlier held added entries now left begun counted same none =
    record {
      long = rw none (omega arith);
      nothing = λ all.
          let few : length left ≡ 0 = ap length none in
          let empty : entries ≡ [] = nil_from_length entries (omega (arith, few, all, same, begun.long)) in
          let whole : added ≡ length entries = rw empty (omega (arith, few, all, same)) in
          counted ∙ rw empty (begun.nothing whole);
    }

held_append : (held : Held) (entries : List EntryView) (entry : EntryView)
    → held_after held (entries ++ entry ∷ []) ≡ with_entry (held_after held entries) entry
held_append held [] entry = refl
held_append held (e ∷ es) entry = held_append (with_entry held e) es entry

-- a guard that counted one more entry
pub one_counted : (earlier held new : Held) (own more : List EntryView) (entry : EntryView)
    → held ≡ held_after earlier own → more ≡ own ++ entry ∷ [] → new ≡ with_entry held entry
    → new ≡ held_after earlier more
one_counted earlier held new own more entry counted is adds =
    adds ∙ ap (λ h. with_entry h entry) counted ∙ sym (held_append earlier own entry) ∙ ap (λ l. held_after earlier l) (sym is)

module _ (limits : Counts) where
  -- an entry that opens nothing and starts nothing
  quiet : (held : Held) (entry : EntryView) → opened_by entry ≡ [] → started_by entry ≡ 0
      → Fits limits (counts_of held) → Fits limits (counts_of (with_entry held entry))
  quiet held entry opened started fits = record {
    ends =
        let few = fits.ends in
        let less = (spent_less (with_ends held (opened_by entry)) (spent_by entry)).0 in
        let same = ap (λ numbers. (with_ends held numbers).ends) opened in omega (arith, few, less, same);
    children = let few = fits.children in let now = children_now held entry in omega (arith, started, few, now);
  }

  -- one that opens an end, within the limits
  opening : (held : Held) (number : ℕ) → nat_le (held.ends + 1) limits.ends ≡ true
      → Fits limits (counts_of held)
      → Fits limits (counts_of (with_children (with_ends held (number ∷ [])) 0))
  opening held number within fits = record {
    ends = leb-true _ _ within;
    children = let few = fits.children in omega (arith, few);
  }

  -- an entry whose request keeps within the limits
  asked_fits : (held : Held) (entry : EntryView) → is_within limits held entry ≡ true
      → Fits limits (counts_of held) → Fits limits (counts_of (with_entry held entry))
  asked_fits held (Pipe (Ok ends)) within fits = record {
    ends = let few = leb-true _ _ within in omega (arith, few);
    children = let few = fits.children in omega (arith, few);
  }
  asked_fits held (OpenRead path (Ok n)) within fits = opening held n within fits
  asked_fits held (Create path (Ok n)) within fits = opening held n within fits
  asked_fits held (Duplicate lent (Ok n)) within fits = opening held n within fits
  asked_fits held (Parent side (Ok n)) within fits = opening held n within fits
  asked_fits held (Spawn spec io (Ok n)) within fits = record {
    ends = let few = fits.ends in let less = (spent_less held (ends_of io)).0 in omega (arith, few, less);
    children =
        let few = leb-true _ _ within in
        let same = (spent_less held (ends_of io)).1 in omega (arith, few, same);
  }
  asked_fits held entry within fits = quiet held entry refl refl fits

  -- an entry whose request failed
  failed_fits : (held : Held) (entry : EntryView) (fault : Fault)
      → fault_of entry ≡ Some fault → Fits limits (counts_of held) → Fits limits (counts_of (with_entry held entry))
  failed_fits held (Pipe (Ok ends)) fault is fits = absurd (cc)
  failed_fits held (OpenRead path (Ok n)) fault is fits = absurd (cc)
  failed_fits held (Create path (Ok n)) fault is fits = absurd (cc)
  failed_fits held (Duplicate lent (Ok n)) fault is fits = absurd (cc)
  failed_fits held (Parent side (Ok n)) fault is fits = absurd (cc)
  failed_fits held (Spawn spec io (Ok n)) fault is fits = absurd (cc)
  failed_fits held entry fault is fits = quiet held entry refl refl fits

  fits_prop : (held : Held) (one other : Fits limits (counts_of held)) → one ≡ other
  fits_prop held one other = λ i. record {
    ends = le_prop one.ends other.ends i;
    children = le_prop one.children other.children i;
  }

  all_prop : (held : Held) (entries : List EntryView)
      (one other : AlwaysFits limits held entries) → one ≡ other
  all_prop held [] one other = fits_prop held one other
  all_prop held (e ∷ es) one other = λ i.
      (fits_prop held one.0 other.0 i, all_prop (with_entry held e) es one.1 other.1 i)

  last_fits : (held : Held) (entries : List EntryView) → AlwaysFits limits held entries
      → Fits limits (counts_of (held_after held entries))
  last_fits held [] fits = fits
  last_fits held (e ∷ es) fits = last_fits (with_entry held e) es fits.1

module _ (rules : Rules) where
  entry_fits : (held : Held) (entry : EntryView) (asked : List EntryView)
      → Forwards rules held entry asked → Fits rules.limits (counts_of held)
      → Fits rules.limits (counts_of (with_entry held entry))
  entry_fits held entry asked (Passed allowed is) fits =
      asked_fits rules.limits held entry (and_parts (is_allowed rules entry) (is_within rules.limits held entry) allowed).1 fits
  entry_fits held entry asked (Refused count fault is) fits =
      failed_fits rules.limits held entry _ fault fits
  entry_fits held entry asked (Crowded count spec io noted full is) fits =
      failed_fits rules.limits held entry _ (ap fault_of noted) fits
  entry_fits held entry asked (LostVars vars noted is) fits =
      failed_fits rules.limits held entry _ (ap fault_of noted) fits
  entry_fits held entry asked (LostPath path name allowed noted is) fits =
      failed_fits rules.limits held entry _ (ap fault_of noted) fits

  all_fit : (held : Held) (entries below : List EntryView) → Fits rules.limits (counts_of held)
      → ForwardsAll rules held entries below → AlwaysFits rules.limits held entries
  all_fit held [] below fits all = fits
  all_fit held (e ∷ es) below fits all =
      (fits, all_fit (with_entry held e) es all.1 (entry_fits held e all.0 all.3 fits) all.4)

  -- no more than the limits is held, neither before nor after any entry
  pub own_fits : (held : Held) (own below : List EntryView) → Fits rules.limits (counts_of held)
      → ∥ ForwardsAll rules held own below ∥₁ → AlwaysFits rules.limits held own
  own_fits held own below fits forwards =
      ∥∥₁_elim forwards (all_prop rules.limits held own) (all_fit held own below fits)

  -- and now
  pub now_fits : (earlier held : Held) (own below : List EntryView) → Fits rules.limits (counts_of earlier)
      → ∥ ForwardsAll rules earlier own below ∥₁ → held ≡ held_after earlier own
      → Fits rules.limits (counts_of held)
  now_fits earlier held own below fits forwards counted =
      subst (λ (h : Held). Fits rules.limits (counts_of h)) (sym counted) (last_fits rules.limits earlier own (own_fits earlier own below fits forwards))

-- a fact that a result needs where it is Ok
pub on_ok : {A E : Type 0} (result : Result A E) {P : Type 0} → P → OnOk result P
on_ok (Ok it) holds = holds
on_ok (Err error) holds = tt

-- a request that no limit counts is allowed as the rules say
pub as_allowed : {allowed said : Bool} → allowed ≡ said → (allowed && true) ≡ said
as_allowed {allowed} is = and-true allowed ∙ is

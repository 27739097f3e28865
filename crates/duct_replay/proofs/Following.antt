-- How a journal retraces a recording after one more entry, and after it was cleared.
use Rattle.std.proofs.Common.{ℕ, Bool, true, false, List, [], ◌∷◌, ◌++◌, ◌+◌, ◌<◌, ◌≤◌, length, take, slice_get, suc, Some, None, Ok, Err, IfErr, OnOk, OnErr, Option, Result, ◌≡◌, ◌≢◌, refl, ap, sym, subst, ◌∙◌, arith, append_assoc, length-append, append-nil}
use Rattle.std.proofs.lemmas.List.{take-append-le, get_or_append_left}
use Rattle.std.proofs.lemmas.Option.{slice_get_within, slice_get-get_or, get_or_from_slice_get}
use Rattle.std.proofs.Math.Seq.{take-append_seam, take-suc, get_or-append_seam}
use mathlib.Core.Logic.{∥∥₁_map}
use Rattle.duct_system.specs.EntryView.{EntryView}
use Rattle.duct_system.specs.Journal.{JournalView}
use Rattle.duct_system.specs.declared.system.Fault.{Fault}
use Rattle.duct_system.specs.declared.system.Kind.TheVariants.{OutOfMemory}
use Rattle.duct_replay.specs.Replays.{IsToldRight, Agrees, DiffersAt, Retraces, difference_after, entry_at}

-- one more entry makes a list longer by one
longer : (asked : List EntryView) (entry : EntryView) → length (asked ++ entry ∷ []) ≡ length asked + 1
longer asked entry = length-append asked (entry ∷ [])

-- the entry that was added stands last
added_last : (asked : List EntryView) (entry : EntryView)
    → slice_get (asked ++ entry ∷ []) (length asked) ≡ Some entry
added_last asked entry =
    let count = longer asked entry in
    let within : length asked < length (asked ++ entry ∷ []) = omega (arith, count) in
    slice_get-get_or (asked ++ entry ∷ []) (length asked) entry within
    ∙ ap (λ (e : EntryView). Some e) (get_or-append_seam asked entry [] entry)

-- the entries before it stand where they stood
stands_before : (asked : List EntryView) (entry : EntryView) (place : ℕ) → place < length asked
    → slice_get (asked ++ entry ∷ []) place ≡ slice_get asked place
stands_before asked entry place within =
    let count = longer asked entry in
    let also : place < length (asked ++ entry ∷ []) = omega (arith, count, within) in
    slice_get-get_or (asked ++ entry ∷ []) place entry also
    ∙ ap (λ (e : EntryView). Some e) (get_or_append_left asked (entry ∷ []) entry place within)
    ∙ sym (slice_get-get_or asked place entry within)

-- one more entry that agrees
agrees_more : (recorded asked : List EntryView) (entry : EntryView)
    → asked ≡ take (length asked) recorded → slice_get recorded (length asked) ≡ Some entry
    → asked ++ entry ∷ [] ≡ take (length (asked ++ entry ∷ [])) recorded
agrees_more recorded asked entry is got =
    let within = slice_get_within recorded (length asked) entry got in
    let value = get_or_from_slice_get recorded (length asked) entry entry got in
    let grown = take-suc recorded (length asked) entry within in
    let count : length (asked ++ entry ∷ []) ≡ suc (length asked) = omega (arith, longer asked entry) in
    rw (count, grown, value, ← is) refl

-- the first entry that differs
differs_first : (recorded asked : List EntryView) (entry : EntryView)
    → asked ≡ take (length asked) recorded → slice_get recorded (length asked) ≢ Some entry
    → DiffersAt (length asked) recorded (asked ++ entry ∷ [])
differs_first recorded asked entry is other = record {
  within = omega (arith, longer asked entry);
  same = take-append_seam asked (entry ∷ []) ∙ is;
  other = λ same. other (sym same ∙ added_last asked entry);
}

-- one more entry after one that differs
differs_still : (recorded asked : List EntryView) (entry : EntryView) (place : ℕ)
    → DiffersAt place recorded asked → DiffersAt place recorded (asked ++ entry ∷ [])
differs_still recorded asked entry place differs =
    let within : place < length asked = differs.within in
    let most : place ≤ length asked = omega (arith, within) in
    record {
      within = omega (arith, longer asked entry, within);
      same = take-append-le place asked (entry ∷ []) most ∙ differs.same;
      other = λ same. differs.other (sym (stands_before asked entry place within) ∙ same);
    }

-- one more entry
one_more_agrees : (recorded asked : List EntryView) (entry : EntryView) (difference : Option ℕ)
    (agrees : Bool) → Agrees recorded asked difference
    → IsToldRight agrees entry (entry_at recorded (length asked) difference)
    → Agrees recorded (asked ++ entry ∷ []) (difference_after agrees (length asked) difference)
one_more_agrees recorded asked entry None true is told = agrees_more recorded asked entry is told
one_more_agrees recorded asked entry None false is told = differs_first recorded asked entry is told
one_more_agrees recorded asked entry (Some place) true is told = differs_still recorded asked entry place is
one_more_agrees recorded asked entry (Some place) false is told = differs_still recorded asked entry place is

follows_more : (recorded entries : List EntryView) (added : ℕ) (difference : Option ℕ)
    (agrees : Bool) (entry : EntryView) → Retraces recorded entries added difference
    → IsToldRight agrees entry (entry_at recorded added difference)
    → Retraces recorded (entries ++ entry ∷ []) (added + 1) (difference_after agrees added difference)
follows_more recorded entries added difference agrees entry (cleared, count, is) told =
    let asked = cleared ++ entries in
    let reached : length asked ≡ added = length-append cleared entries ∙ count in
    let joined : asked ++ entry ∷ [] ≡ cleared ++ (entries ++ entry ∷ []) = simp append_assoc in
    let next : IsToldRight agrees entry (entry_at recorded (length asked) difference) =
    subst (λ (place : ℕ). IsToldRight agrees entry (entry_at recorded place difference)) (sym reached) told in
    let more = one_more_agrees recorded asked entry difference agrees is next in
    let there = subst (λ (place : ℕ). Agrees recorded (asked ++ entry ∷ []) (difference_after agrees place difference)) reached more in (
      cleared,
      omega (arith, longer entries entry, count),
      subst (λ (all : List EntryView). Agrees recorded all (difference_after agrees added difference)) joined there,
    )

-- a journal that noted one more entry
pub one_followed : (recorded entries more : List EntryView) (added count : ℕ)
    (difference after : Option ℕ) (agrees : Bool) (entry : EntryView)
    → ∥ Retraces recorded entries added difference ∥₁
    → IsToldRight agrees entry (entry_at recorded added difference)
    → more ≡ entries ++ entry ∷ [] → count ≡ added + 1
    → after ≡ difference_after agrees added difference
    → ∥ Retraces recorded more count after ∥₁
one_followed recorded entries more added count difference after agrees entry retraces told is counted differs =
    rw (is, counted, differs)
    (∥∥₁_map retraces (λ f. follows_more recorded entries added difference agrees entry f told))

follows_cleared : (recorded entries : List EntryView) (added : ℕ) (difference : Option ℕ)
    → Retraces recorded entries added difference → Retraces recorded [] added difference
follows_cleared recorded entries added difference (cleared, count, is) = (
  cleared ++ entries,
  omega (arith, length-append cleared entries, count),
  subst (λ (all : List EntryView). Agrees recorded all difference) (sym (append-nil (cleared ++ entries))) is,
)

-- a journal that was cleared
pub none_followed : (recorded entries none : List EntryView) (added count : ℕ)
    (difference : Option ℕ) → ∥ Retraces recorded entries added difference ∥₁
    → none ≡ [] → count ≡ added → ∥ Retraces recorded none count difference ∥₁
none_followed recorded entries none added count difference retraces is counted =
    rw (is, counted) (∥∥₁_map retraces (follows_cleared recorded entries added difference))

-- a journal with the same entries
pub same_followed : (recorded entries same : List EntryView) (added count : ℕ)
    (difference : Option ℕ) → ∥ Retraces recorded entries added difference ∥₁
    → same ≡ entries → count ≡ added → ∥ Retraces recorded same count difference ∥₁
same_followed recorded entries same added count difference retraces is counted =
    rw (is, counted) retraces

-- a journal that a request for room has changed in its room alone
pub prepared : {T : Type 0} (result : Result T Fault) (old new : JournalView) (room : ℕ)
    → OnOk result (new ≡ record old { room = room }) → OnErr result (new ≡ old)
    → (new.entries ≡ old.entries) × (new.added ≡ old.added)
prepared (Ok done) old new room ok err =
    (ap (λ (j : JournalView). j.entries) ok, ap (λ (j : JournalView). j.added) ok)
prepared (Err fault) old new room ok err =
    (ap (λ (j : JournalView). j.entries) err, ap (λ (j : JournalView). j.added) err)

-- the same of the room for a spawn's entry
pub prepared_spawn : {T : Type 0} (result : Result T Fault) (old new : JournalView) (room ends : ℕ)
    → OnOk result (new ≡ record old { room = room })
    → IfErr result (λ fault. (fault.kind ≡ OutOfMemory) × (new ≡ old) × (ends ≡ 0))
    → (new.entries ≡ old.entries) × (new.added ≡ old.added)
prepared_spawn (Ok done) old new room ends ok err =
    (ap (λ (j : JournalView). j.entries) ok, ap (λ (j : JournalView). j.added) ok)
prepared_spawn (Err fault) old new room ends ok err =
    (ap (λ (j : JournalView). j.entries) err.1, ap (λ (j : JournalView). j.added) err.1)

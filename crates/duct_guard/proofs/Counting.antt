-- A guard that noted one more entry.
use Rattle.std.proofs.Common.{◌≡◌, refl, ap, sym, ◌∙◌, arith, ◌+◌, ◌-◌, ◌≤◌, ℕ, List, [], ◌∷◌, ◌++◌, length, Ok, Err, IfOk, OnOk, OnErr, Result}
use Rattle.duct_system.specs.Child.{Answer}
use Rattle.duct_guard.proofs.Common.{EntryView, Spawn, answer_of, JournalView, opened_by, spent_by, SpecView, ends_of, Fault, Stdio, child_by, IsCrew, Joins, Leaves, with_children, with_ends, with_entry, without_ends, IsForwarded, Keeps, Rules, Held}
use Rattle.duct_guard.proofs.Holding.{begun_still, entry_is, none_started, one_counted}
use Rattle.duct_guard.proofs.Crews.{crew_joined, crew_left, crew_same}
use Rattle.duct_guard.proofs.Guarding.{OpensEnd, one_noted}

-- a journal with this many entries ever added and this room, to which one more was added
pub record Notes (entry : EntryView) (entries : List EntryView) (added room : ℕ)
    (now : JournalView) : Type 0 where
  pub entries_are : now.entries ≡ entries ++ entry ∷ []
  pub added_is : now.added ≡ added + 1
  pub room_is : now.room ≡ room - 1

-- the same after room was reserved or released
pub notes : {entries : List EntryView} {added next room : ℕ} {ready now : JournalView}
    {noted entry : EntryView}
    → ready ≡ record { entries = entries; added = added; next = next; room = room }
    → now ≡ record ready { entries = ready.entries ++ noted ∷ []; added = ready.added + 1; room = ready.room - 1 }
    → noted ≡ entry → Notes entry entries added room now
notes prepared added is = record {
  entries_are = ap (λ (j : JournalView). j.entries) added ∙ (λ i. (prepared i).entries ++ is i ∷ []);
  added_is = ap (λ (j : JournalView). j.added) added ∙ ap (λ (j : JournalView). j.added + 1) prepared;
  room_is = ap (λ (j : JournalView). j.room) added ∙ ap (λ (j : JournalView). j.room - 1) prepared;
}

-- the ends that a request for one returned
abbrev pub opened_of : {E : Type 0} → Result E Fault → List E
opened_of (Ok end) = end ∷ []
opened_of (Err fault) = []

-- the journal after room for an end was reserved, and released if the request failed
pub ready_for : {E : Type 0} {ready left : JournalView} {entries : List EntryView}
    {added next : ℕ} (room : ℕ) (made : Result E Fault)
    → ready ≡ record { entries = entries; added = added; next = next; room = room + 1 + 1 }
    → OnOk made (left ≡ ready) → OnErr made (left ≡ record ready { room = ready.room - 1 })
    → left ≡ record { entries = entries; added = added; next = next; room = room + 1 + length (opened_of made) }
ready_for room (Ok end) prepared same less = same ∙ prepared
ready_for {entries = entries} {added = added} {next = next} room (Err fault) prepared same less =
    let freed : room + 1 + 1 - 1 ≡ room + 1 + 0 = omega arith in
    less ∙ ap (λ (j : JournalView). record j { room = j.room - 1 }) prepared
    ∙ ap (λ n. record { entries = entries; added = added; next = next; room = n }) freed

module _ {may_answer : ℕ → Answer → Type 0} {rules : Rules} {earlier held new : Held}
    {own more below next : JournalView} {running : List ℕ} where
  -- a guard that noted an entry in the room that was left for it, after which these children run
  noted_by : {now : List ℕ} {room : ℕ} {entry : EntryView}
      → Keeps may_answer rules earlier held own below running
      → IsForwarded rules held entry below next → Notes entry own.entries own.added room more
      → room ≤ own.room + length (opened_by entry) - length (spent_by entry) + 1
      → new ≡ with_entry held entry
      → (more.entries ≡ own.entries ++ entry ∷ [] → ∥ IsCrew may_answer rules.at_once earlier.children more.entries now ∥₁)
      → Keeps may_answer rules earlier new more next now
  noted_by kept sent noted few counted crew = record {
    within =
        let within = kept.within in
        let grows = sent.adds.room_is in
        let left = noted.room_is in omega (arith, within, grows, left, few);
    begun = begun_still _ _ _ _ _ _ kept.begun noted.entries_are noted.added_is;
    forwards = one_noted _ _ _ _ _ _ _ _ kept.forwards kept.counted sent noted.entries_are;
    counted = one_counted _ _ _ _ _ _ kept.counted noted.entries_are counted;
    fits = kept.fits;
    knows = crew noted.entries_are;
  }

  -- one that started no child
  pub noted_one : {room : ℕ} {entry : EntryView}
      → Keeps may_answer rules earlier held own below running
      → IsForwarded rules held entry below next → Notes entry own.entries own.added room more
      → room ≤ own.room + length (opened_by entry) - length (spent_by entry) + 1
      → child_by entry ≡ [] → new ≡ without_ends (with_ends held (opened_by entry)) (spent_by entry)
      → Keeps may_answer rules earlier new more next running
  noted_one kept sent noted few none counted =
      noted_by kept sent noted few (counted ∙ entry_is _ _ none)
      (λ entries. crew_same _ _ _ _ _ _ _ kept.knows none entries)

  -- one that requested an end
  pub noted_end : {E : Type 0} (number : E → ℕ) {entry : Result ℕ Fault → EntryView}
      (made : Result E Fault) → OpensEnd entry → Keeps may_answer rules earlier held own below running
      → IsForwarded rules held (entry (answer_of number made)) below next
      → Notes (entry (answer_of number made)) own.entries own.added (own.room + 1 + length (opened_of made)) more
      → IfOk made (λ end. new ≡ with_ends held (number end ∷ [])) → OnErr made (new ≡ held)
      → Keeps may_answer rules earlier new more next running
  noted_end number (Ok end) opens kept sent noted one none =
      let opened = opens.opened (number end) in
      let spent = opens.spent (Ok (number end)) in
      noted_one kept sent noted (omega (arith, ap length opened, ap length spent))
      (opens.started (Ok (number end))) (rw (opened, spent) one)
  noted_end number (Err fault) opens kept sent noted one none =
      let opened = opens.unopened fault in
      let spent = opens.spent (Err fault) in
      noted_one kept sent noted (omega (arith, ap length opened, ap length spent))
      (opens.started (Err fault)) (rw (opened, spent) none)

  -- one that started a child, or was to
  pub noted_child : {now : List ℕ} {room : ℕ} {C : Type 0} (number : C → ℕ) (spec : SpecView)
      (io : List (Stdio ℕ)) (made : Result C Fault)
      → Keeps may_answer rules earlier held own below running
      → IsForwarded rules held (Spawn spec io (answer_of number made)) below next
      → Notes (Spawn spec io (answer_of number made)) own.entries own.added room more
      → room ≤ own.room - length (ends_of io) + 1
      → IfOk made (λ child. ∥ Joins may_answer rules.at_once running (number child) now ∥₁)
      → OnErr made (∥ Leaves may_answer running now ∥₁)
      → OnOk made (new ≡ with_children (without_ends held (ends_of io)) 1)
      → OnErr made (new ≡ without_ends held (ends_of io))
      → Keeps may_answer rules earlier new more next now
  noted_child number spec io (Ok child) kept sent noted few joins leaves one none =
      noted_by kept sent noted (omega (arith, few)) one
      (λ entries. crew_joined _ _ _ _ _ _ _ _ _ kept.knows joins refl entries)
  noted_child number spec io (Err fault) kept sent noted few joins leaves one none =
      noted_by kept sent noted (omega (arith, few)) (none ∙ sym (none_started _))
      (λ entries. crew_same _ _ _ _ _ _ _ (crew_left _ _ _ _ _ _ kept.knows leaves) refl entries)

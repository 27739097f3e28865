-- Ends that are closed one after the other.
use Rattle.std.proofs.Common.{ℕ, List, [], ◌∷◌, ◌++◌, ap, sym, ◌∙◌, arith, append_assoc, length-append, map}
use Rattle.duct_run.proofs.Common.{append-nil, map-append, EntryView, Close, JournalView, GivesEnds, Closes}

-- nothing was closed
pub closes_none : (now : JournalView) → Closes [] now now
closes_none now = record {
  entries_are = sym (append-nil now.entries);
  counted = omega arith;
  next_grows = omega arith;
  room_is = omega arith;
}

-- one more end was closed
pub closes_next : (numbers : List ℕ) (number : ℕ) (old now then : JournalView)
    → Closes numbers old now → GivesEnds (Close number) 1 now then
    → Closes (numbers ++ number ∷ []) old then
closes_next numbers number old now then closes gives = record {
  entries_are = gives.entries_are ∙ ap (λ (l : List EntryView). l ++ Close number ∷ []) closes.entries_are
      ∙ append_assoc old.entries (map Close numbers) (Close number ∷ [])
      ∙ ap (λ (l : List EntryView). old.entries ++ l) (sym (map-append Close numbers (number ∷ [])));
  counted = omega (arith, gives.added_is, closes.counted, length-append numbers (number ∷ []));
  next_grows = omega (arith, gives.next_grows, closes.next_grows);
  room_is = omega (arith, gives.room_is, closes.room_is, length-append numbers (number ∷ []));
}

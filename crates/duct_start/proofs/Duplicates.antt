-- A duplicate of a caller's end comes from that end, if no request got that end's number.
use Rattle.std.proofs.Common.{◌≡◌, ℕ, ◌≤◌, List, [], ◌∷◌, subst, ap, ◌∙◌, arith, inl, inr, Ok, reverse, ◌==◌, false}
use Rattle.duct_system.specs.EntryView.{EntryView, Pipe, OpenRead, Create, Duplicate, Parent}
use Rattle.duct_system.specs.Ledger.{opened_numbers, count_of}
use Rattle.duct_system.specs.Origin.{Lent, origin, origin_before}
use Rattle.duct_start.specs.Sources.{IsDuplicate, IsDuplicateBefore}
use Rattle.duct_start.proofs.Counts.{count-cons, count_same, is_itself, other_than}
use Rattle.duct_start.proofs.Origins.{count_got-reverse, lent_before}

-- a request got the number of a duplicate
was_got : (entries : List EntryView) (lent n : ℕ) → IsDuplicateBefore entries lent n
    → 1 ≤ count_of n (opened_numbers entries)
was_got [] lent n is = absurd is
was_got (Duplicate other (Ok end) ∷ entries) lent n (inl is) =
    omega (arith, count-cons n end (opened_numbers entries), ap (λ (k : ℕ). count_of n (k ∷ [])) is.0, count_same n)
was_got (Duplicate other (Ok end) ∷ entries) lent n (inr is) = omega (arith, count-cons n end (opened_numbers entries), was_got entries lent n is)
was_got (Pipe (Ok (reader, writer)) ∷ entries) lent n is =
    omega (arith, count-cons n reader (writer ∷ opened_numbers entries), count-cons n writer (opened_numbers entries), was_got entries lent n is)
was_got (OpenRead path (Ok end) ∷ entries) lent n is = omega (arith, count-cons n end (opened_numbers entries), was_got entries lent n is)
was_got (Create path (Ok end) ∷ entries) lent n is = omega (arith, count-cons n end (opened_numbers entries), was_got entries lent n is)
was_got (Parent side (Ok end) ∷ entries) lent n is = omega (arith, count-cons n end (opened_numbers entries), was_got entries lent n is)
was_got (entry ∷ entries) lent n is = was_got entries lent n is

-- that number was got once, so no other entry got it
other_end : (n end : ℕ) (numbers : List ℕ) → count_of n (end ∷ numbers) ≤ 1
    → 1 ≤ count_of n numbers → (n == end) ≡ false
other_end n end numbers once some = other_than n end (omega (arith, once, some, count-cons n end numbers))

less_once : (k end : ℕ) (numbers : List ℕ) → count_of k (end ∷ numbers) ≤ 1
    → count_of k numbers ≤ 1
less_once k end numbers once = omega (arith, once, count-cons k end numbers)

less_none : (k end : ℕ) (numbers : List ℕ) → count_of k (end ∷ numbers) ≡ 0
    → count_of k numbers ≡ 0
less_none k end numbers none = omega (arith, none, count-cons k end numbers)

module _ (lent : ℕ) where
  duplicate_before : (entries : List EntryView) (n : ℕ) → IsDuplicateBefore entries lent n
      → count_of lent (opened_numbers entries) ≡ 0 → ((k : ℕ) → count_of k (opened_numbers entries) ≤ 1)
      → origin_before entries n ≡ Lent lent
  duplicate_before [] n is none once = absurd is
  duplicate_before (Duplicate other (Ok end) ∷ entries) n (inl is) none once =
      let less = less_none lent end (opened_numbers entries) none in
      let few = λ (k : ℕ). less_once k end (opened_numbers entries) (once k) in
      let at_end : origin_before (Duplicate other (Ok end) ∷ entries) end ≡ Lent lent = rw is_itself (elim is.1 as (λ x. origin_before entries other ≡ Lent lent) [
        | inl same ↦ ap (λ (k : ℕ). origin_before entries k) same ∙ lent_before lent entries less
        | inr before ↦ duplicate_before entries other before less few
      ]) in
      subst (λ (k : ℕ). origin_before (Duplicate other (Ok end) ∷ entries) k ≡ Lent lent) is.0 at_end
  duplicate_before (Duplicate other (Ok end) ∷ entries) n (inr is) none once =
      rw (other_end n end (opened_numbers entries) (once n) (was_got entries lent n is))
      (duplicate_before entries n is (less_none lent end (opened_numbers entries) none) (λ k. less_once k end (opened_numbers entries) (once k)))
  duplicate_before (Pipe (Ok (reader, writer)) ∷ entries) n is none once =
      let none' = less_none lent reader (writer ∷ opened_numbers entries) none in
      let once' = λ (k : ℕ). less_once k reader (writer ∷ opened_numbers entries) (once k) in
      let some = was_got entries lent n is in
      let r : (n == reader) ≡ false = other_end n reader (writer ∷ opened_numbers entries) (once n) (omega (arith, some, count-cons n writer (opened_numbers entries))) in
      let w : (n == writer) ≡ false = other_end n writer (opened_numbers entries) (once' n) some in
      rw (r, w) (duplicate_before entries n is (less_none lent writer (opened_numbers entries) none') (λ k. less_once k writer (opened_numbers entries) (once' k)))
  duplicate_before (OpenRead path (Ok end) ∷ entries) n is none once =
      rw (other_end n end (opened_numbers entries) (once n) (was_got entries lent n is))
      (duplicate_before entries n is (less_none lent end (opened_numbers entries) none) (λ k. less_once k end (opened_numbers entries) (once k)))
  duplicate_before (Create path (Ok end) ∷ entries) n is none once =
      rw (other_end n end (opened_numbers entries) (once n) (was_got entries lent n is))
      (duplicate_before entries n is (less_none lent end (opened_numbers entries) none) (λ k. less_once k end (opened_numbers entries) (once k)))
  duplicate_before (Parent side (Ok end) ∷ entries) n is none once =
      rw (other_end n end (opened_numbers entries) (once n) (was_got entries lent n is))
      (duplicate_before entries n is (less_none lent end (opened_numbers entries) none) (λ k. less_once k end (opened_numbers entries) (once k)))
  duplicate_before (entry ∷ entries) n is none once = duplicate_before entries n is none once

  -- a duplicate of an end comes from that end, if no request got that end's number and each number
  -- was got at most once
  pub duplicate_origin : (entries : List EntryView) (n : ℕ) → IsDuplicate entries lent n
      → count_of lent (opened_numbers entries) ≡ 0 → ((k : ℕ) → count_of k (opened_numbers entries) ≤ 1)
      → origin entries n ≡ Lent lent
  duplicate_origin entries n is none once =
      duplicate_before (reverse entries) n is (count_got-reverse lent entries ∙ none) (λ k. omega (arith, count_got-reverse k entries, once k))

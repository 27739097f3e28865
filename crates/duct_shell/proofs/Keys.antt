-- The keys of jobs: a key is found at its first place, and counts differ, so at no other.
use Rattle.std.proofs.Common.{◌≡◌, ℕ, zero, suc, ◌+◌, ◌<◌, ◌≤◌, [], ◌∷◌, ◌++◌, true, false, Some, None, length, get_or, refl, ap, arith}
use Rattle.std.proofs.lemmas.Bool.{and_from, and_left, and_parts, cond_both, eq-eqb, eqb-true, ne_eqb}
use Rattle.std.specs.Prelude.{remove}
use Rattle.duct_handle.specs.HandleView.{HandleView}
use Rattle.duct_shell.specs.declared.jobs.Job.{Job}
use Rattle.duct_shell.specs.Jobs.{AreAbove, AreCounted, Kept, find_in, is_key, without}

-- counts stay above and below others where a key with a greater count is added
above_push : (kept : Kept) (pair : Job × HandleView) (n : ℕ) → AreAbove n kept → n < pair.0.count
    → AreAbove n (kept ++ pair ∷ [])
above_push [] pair n above last = (last, tt)
above_push (first ∷ rest) pair n above last = (above.0, above_push rest pair n above.1 last)

pub counted_push : (kept : Kept) (pair : Job × HandleView) (next : ℕ) → AreCounted next kept
    → pair.0.count ≡ next → AreCounted (next + 1) (kept ++ pair ∷ [])
counted_push [] pair next counted is = (omega (arith, is), tt, tt)
counted_push (first ∷ rest) pair next counted is = (
  omega (arith, counted.0),
  above_push rest pair first.0.count counted.1 (omega (arith, counted.0, is)),
  counted_push rest pair next counted.2 is,
)

module _ (job : Job) where
  -- a pair of another count doesn't have the key
  other : (pair : Job × HandleView) → (pair.0.count ≡ job.count → ⊥) → is_key job pair ≡ false
  other pair apart = and_left _ _ (ne_eqb pair.0.count job.count apart)

  -- no count above the key's is found
  find_above : (kept : Kept) (n : ℕ) → AreAbove n kept → job.count ≤ n → find_in job kept ≡ None
  find_above [] n above most = refl
  find_above (pair ∷ rest) n above most =
      rw (other pair (λ e. omega (arith, e, above.0, most))) (find_above rest n above.1 most)

  above_without : (kept : Kept) (n : ℕ) → AreAbove n kept → AreAbove n (without job kept)
  above_without [] n above = tt
  above_without (pair ∷ rest) n above = cond_both (is_key job pair) rest (pair ∷ without job rest)
      (AreAbove n) (λ is. above.1) (λ isnt. (above.0, above_without rest n above.1))

  pub counted_without : (kept : Kept) (next : ℕ) → AreCounted next kept
      → AreCounted next (without job kept)
  counted_without [] next counted = tt
  counted_without (pair ∷ rest) next counted =
      cond_both (is_key job pair) rest (pair ∷ without job rest) (AreCounted next)
      (λ is. counted.2)
      (λ isnt. (counted.0, above_without rest pair.0.count counted.1, counted_without rest next counted.2))

  -- the key that is taken out is found no more
  pub find-without : (kept : Kept) (next : ℕ) → AreCounted next kept
      → find_in job (without job kept) ≡ None
  find-without [] next counted = refl
  find-without (pair ∷ rest) next counted =
      cond_both (is_key job pair) rest (pair ∷ without job rest) (λ left. find_in job left ≡ None)
      (λ is. find_above rest pair.0.count counted.1
      (omega (arith, eqb-true pair.0.count job.count (and_parts _ _ is).0)))
      (λ isnt. rw isnt (find-without rest next counted.2))

  -- a key with the next count is found once it is added
  pub find-push : (kept : Kept) (handle : HandleView) (next : ℕ) → AreCounted next kept
      → job.count ≡ next → find_in job (kept ++ (job, handle) ∷ []) ≡ Some handle
  find-push [] handle next counted is = rw (and_from _ _ (eq-eqb job.count job.count refl) (eq-eqb job.process job.process refl)) refl
  find-push (pair ∷ rest) handle next counted is =
      rw (other pair (λ e. omega (arith, e, counted.0, is))) (find-push rest handle next counted.2 is)

  -- the first place of the key
  pub at_place : (kept : Kept) (i : ℕ) (d : Job × HandleView) → i < length kept
      → is_key job (get_or kept i d) ≡ true
      → ((k : ℕ) → k < i → is_key job (get_or kept k d) ≡ false)
      → (find_in job kept ≡ Some (get_or kept i d).1) × (without job kept ≡ remove kept i)
  at_place [] i d below here before = absurd (omega arith)
  at_place (pair ∷ rest) zero d below here before = (rw here refl, rw here refl)
  at_place (pair ∷ rest) (suc i) d below here before =
      let no = before 0 (omega arith) in
      let later = at_place rest i d (omega (arith, below)) here (λ k less. before (suc k) (omega (arith, less))) in
      (rw no later.0, rw no (ap (λ left. pair ∷ left) later.1))

  -- no place has the key
  pub at_none : (kept : Kept)
      → ((k : ℕ) → k < length kept → (d : Job × HandleView) → is_key job (get_or kept k d) ≡ false)
      → (find_in job kept ≡ None) × (without job kept ≡ kept)
  at_none [] none = (refl, refl)
  at_none (pair ∷ rest) none =
      let no = none 0 (omega arith) pair in
      let later = at_none rest (λ k less. none (suc k) (omega (arith, less))) in
      (rw no later.0, rw no (ap (λ left. pair ∷ left) later.1))

-- The least number above the numbers of a tree's ends.
use Rattle.std.proofs.Common.{ℕ, ◌+◌, ◌<◌, ◌≤◌, List, [], ◌∷◌, arith, max, All}
use Rattle.duct_run.proofs.Common.{All-nil, All-cons, All-head, All-tail, JournalView, AreEarlier, ends_in, TreeView}

-- the least number above the numbers of some ends
abbrev pub least_above : {E : Type 0} → (E → ℕ) → List E → ℕ
least_above number_of [] = 0
least_above number_of (end ∷ ends) = max (number_of end + 1) (least_above number_of ends)

-- the least number above the numbers of all caller's ends that a tree holds
abbrev pub ceiling : {E H : Type 0} → (E → ℕ) → TreeView E H → ℕ
ceiling number_of tree = least_above number_of (ends_in tree)

module _ {E : Type 0} (number_of : E → ℕ) where
  all_wider : (low high : ℕ) (ends : List E) → low ≤ high → All (λ end. number_of end < low) ends
      → All (λ end. number_of end < high) ends
  all_wider low high [] le all = All-nil (λ end. number_of end < high)
  all_wider low high (end ∷ ends) le all =
      let first : number_of end < high = omega (arith, le, All-head (λ end. number_of end < low) end ends all) in
      All-cons (λ end. number_of end < high) end ends first (all_wider low high ends le (All-tail (λ end. number_of end < low) end ends all))

  all_below : (ends : List E) → All (λ end. number_of end < least_above number_of ends) ends
  all_below [] = All-nil (λ end. number_of end < 0)
  all_below (end ∷ ends) =
      let most = max (number_of end + 1) (least_above number_of ends) in
      All-cons (λ end. number_of end < most) end ends (omega arith) (all_wider (least_above number_of ends) most ends (omega arith) (all_below ends))

  least_least : (most : ℕ) (ends : List E) → All (λ end. number_of end < most) ends
      → least_above number_of ends ≤ most
  least_least most [] all = omega arith
  least_least most (end ∷ ends) all =
      omega (arith, All-head (λ end. number_of end < most) end ends all, least_least most ends (All-tail (λ end. number_of end < most) end ends all))

module _ {E H : Type 0} (number_of : E → ℕ) (tree : TreeView E H) where
  -- each end of a tree has a number below the ceiling of the tree
  pub ends_below : All (λ end. number_of end < ceiling number_of tree) (ends_in tree)
  ends_below = all_below number_of (ends_in tree)

  -- if the ends came before a start, the ceiling is at most the old journal's next number
  pub ceiling_low : (old : JournalView) → AreEarlier number_of old tree
      → ceiling number_of tree ≤ old.next
  ceiling_low old earlier = least_least number_of old.next (ends_in tree) earlier

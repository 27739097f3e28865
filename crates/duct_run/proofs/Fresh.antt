-- Numbers that a request got, which are new: none, one or two.
use Rattle.std.proofs.Common.{◌≢◌, ℕ, ◌<◌, ◌≤◌, [], ◌∷◌, refl, arith, List, ap}
use Rattle.std.proofs.lemmas.Bool.Decides.{nat_tests}
use Rattle.duct_run.proofs.Common.{AreFresh, RunContext, IsLater, count-cons, count_le, count_other, append-nil, opened_by, count_of, EntryView, count_got-append}

pub fresh_none : (next then : ℕ) → next ≤ then → AreFresh next then []
fresh_none next then le = record { newer = le; once = λ n. omega arith; above = λ n lt. refl; below = λ n lt. refl }

pub fresh_one : (next then m : ℕ) → next ≤ m → m < then → AreFresh next then (m ∷ [])
fresh_one next then m low high = record {
  newer = omega arith;
  once = λ n. count_le n m;
  above = λ n lt. let ne : n ≢ m = omega arith in count_other n m ne;
  below = λ n lt. let ne : n ≢ m = omega arith in count_other n m ne;
}

pub fresh_two : (next then m k : ℕ) → next ≤ m → m < then → next ≤ k → k < then → m ≢ k
    → AreFresh next then (m ∷ k ∷ [])
fresh_two next then m k low high low' high' differ =
    let one = fresh_one next then m low high in let two = fresh_one next then k low' high' in record {
      newer = omega arith;
      once = λ n. grind (arith, nat_tests);
      above = λ n lt. omega (arith, count-cons n m (k ∷ []), one.above n lt, two.above n lt);
      below = λ n le. omega (arith, count-cons n m (k ∷ []), one.below n le, two.below n le);
    }

-- an entry that got fresh numbers, together with later entries, is later than what came before it
pub later_more : (context : RunContext) (next then : ℕ) (entry : EntryView) (more : List EntryView)
    → AreFresh next then (opened_by entry) → IsLater context then more
    → IsLater context next (entry ∷ more)
later_more context next then entry more fresh later = record {
  fresh = λ n lt.
      let lt' : n < then = omega (arith, fresh.newer) in
      omega (arith, count_got-append n (entry ∷ []) more, count_got-append n [] (entry ∷ []), fresh.above n lt, later.fresh n lt', ap (λ (l : List ℕ). count_of n l) (append-nil (opened_by entry)));
}

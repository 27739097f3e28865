-- What holds of each attempt holds of attempts.
use Rattle.std.proofs.Common.{ℕ, ◌+◌, ◌≤◌, ◌<◌, ◌≡◌, ◌∙◌, add-one, ap, arith, below_more, List, [], ◌∷◌, ◌++◌, length, length-append, Bool, Ok, Err, IfOk, IfErr, inr, refl, subst, sym, false, ◌⊎◌, Result}
use Rattle.std.proofs.lemmas.Fn.{FoldsTo-push}
use Rattle.std.specs.Borrow.{MutBor}
use Rattle.std.specs.Duration.{as_nanos}
use Rattle.std.specs.declared.time.Duration.{Duration}
use Rattle.duct_tasks.specs.Pauses.{HasRested, longer_than, pause_after}
use Rattle.duct_tasks.proofs.Common.{Shared, FoldsTo, Attempts, FailsFor, FnReturnsAtPairMut, HasPassed}

pub each_step : {P A : Type 0} (R Q : P → A → P → Type 0) →
    ((p : P) (x : A) (q : P) → R p x q → Q p x q)
    → (p : P) (xs : List A) (q : P) → FoldsTo R p xs q → FoldsTo Q p xs q
each_step R Q h p [] q same = same
each_step R Q h p (x ∷ xs) q steps = (
  steps.0,
  h p x steps.0 steps.1,
  each_step R Q h steps.0 xs q
      steps.2,
)

pub each_attempt : {P T E : Type 0} (A B : P → Result T E → P → Type 0) (tells : E → Bool → Type 0)
    (rested : ℕ → Type 0) (most : ℕ) (before : P)
    (result : Result T E) (after : P) → ((p : P) (r : Result T E) (q : P) → A p r q → B p r q)
    → Attempts A tells rested most before result after
    → Attempts B tells rested most before result after
each_attempt A B tells rested most before result after h a = record {
  errors = a.errors;
  between = a.between;
  few = a.few;
  paused = a.paused;
  failed = each_step (FailsFor A tells) (FailsFor B tells) (λ p e q f. (h p (Err e) q f.0, f.1))
      before a.errors a.between a.failed;
  last = h a.between result after a.last;
  over = a.over;
}

-- what holds of each call at two `&mut` holds of the values behind them
pub at_values : {F A B R : Type 0} (g : Shared F (MutBor A × (MutBor B × Unit {0}))
    (R × (MutBor A × (MutBor B × Unit {0})))) (f : F)
    (P : A × B → R → A × B → Type 0)
    → ((first : MutBor A) (second : MutBor B) (r : R) (one : MutBor A) (two : MutBor B)
    → g.post f (first, (second, tt)) (r, (one, (two, tt))) → P (first.now, second.now) r
    (one.now, two.now))
    → (before : A × B) (r : R) (after : A × B) → FnReturnsAtPairMut g f before r after → P before r
    after
at_values {F} {A} {B} {R} g f P h before r after k =
    subst (λ (q : A × B). P before r q) (λ i. (k.leaves.0 i, k.leaves.1 i))
    (subst (λ (p : A × B). P p r (k.left.0.now, k.left.1.0.now)) (λ i. (k.shows.0 i, k.shows.1 i))
    (h k.first k.second r k.left.0 k.left.1.0 k.met))

-- a fact of a result, by what holds of its value and of its error
pub by_result : {T E : Type 0} (P : Result T E → Type 0) (r : Result T E) → IfOk r
    (λ value. P (Ok value))
    → IfErr r (λ e. P (Err e)) → P r
by_result P (Ok value) ok err = ok
by_result P (Err e) ok err = err

module _ {P T E : Type 0} (attempt : P → Result T E → P → Type 0) (tells : E → Bool → Type 0)
    (shows : Duration → Type 0) (least greatest : Duration) (before : P) where
  -- all attempts before the next, which is this one by its number, failed with an error that was
  -- called transient, and after each was a pause, of which the last was so many nanoseconds
  pub record SoFar (next nanos : ℕ) (between : P) : Type 0 where
    pub errors : List E
    pub count : length errors + 1 ≡ next
    pub failed : FoldsTo (FailsFor attempt tells) before errors between
    pub paused : (k : ℕ) → k < length errors → HasRested shows least greatest (k + 1)
    pub pause : nanos ≡ pause_after least greatest (length errors)

module _ {P T E : Type 0} {attempt : P → Result T E → P → Type 0} {tells : E → Bool → Type 0}
    {shows : Duration → Type 0} {least greatest : Duration} {before : P} where
  pub first : SoFar attempt tells shows least greatest before 1 0 before
  first = record {
    errors = [];
    count = refl;
    failed = refl;
    paused = λ k few. absurd (omega (arith, few));
    pause = refl;
  }

  module _ {next nanos : ℕ} {between : P}
      (so_far : SoFar attempt tells shows least greatest before next nanos between) where
    -- so did the next, and then there was a longer pause
    pub failed : (later : ℕ) → later ≡ next + 1 → (e : E) {after : P} → FailsFor attempt tells
        between e after → (longer : Duration)
        → as_nanos longer ≡ longer_than least greatest nanos → HasPassed shows longer
        → SoFar attempt tells shows least greatest before later (as_nanos longer) after
    failed later is e {after} fails longer long passed =
        let count : length (so_far.errors ++ e ∷ []) ≡ length so_far.errors + 1 = omega (arith, length-append so_far.errors (e ∷ [])) in
        let last = long ∙ ap (longer_than least greatest) so_far.pause in
        record {
          errors = so_far.errors ++ e ∷ [];
          count = omega (arith, is, so_far.count, count);
          failed = FoldsTo-push (FailsFor attempt tells) before so_far.errors between e after
              so_far.failed fails;
          paused = subst (λ (n : ℕ). (k : ℕ) → k < n → HasRested shows least greatest (k + 1)) (sym count)
              (below_more (λ k. HasRested shows least greatest (k + 1)) (length so_far.errors) so_far.paused (longer, rw add-one last, passed));
          pause = rw (count, add-one) last;
        }

    -- the next is the last
    pub ends : (most : ℕ) → next ≤ most → {result : Result T E} {after : P} → attempt between result
        after
        → IfErr result (λ e. tells e false ⊎ (next ≡ most))
        → Attempts attempt tells (HasRested shows least greatest) most before result after
    ends most few {result} last over = record {
      errors = so_far.errors;
      between = between;
      few = omega (arith, so_far.count, few);
      failed = so_far.failed;
      paused = so_far.paused;
      last = last;
      over = subst (λ (n : ℕ). IfErr result (λ e. tells e false ⊎ (n ≡ most))) (sym so_far.count)
          over;
    }

    -- the next is the last that is allowed
    pub gives_up : (most : ℕ) → next ≡ most → (result : Result T E) {after : P} → attempt between
        result after
        → Attempts attempt tells (HasRested shows least greatest) most before result after
    gives_up most is (Ok value) did = ends most (omega (arith, is)) did tt
    gives_up most is (Err e) did = ends most (omega (arith, is)) did (inr is)

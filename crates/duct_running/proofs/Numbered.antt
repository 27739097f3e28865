-- The numbers in the views of children and workers are their own.
use Rattle.std.proofs.Common.{◌≡◌, refl, ap, ℕ, List, [], ◌∷◌, map, Some, None, option_map, Option}
use Rattle.duct_running.proofs.Common.{ChildView, JobView, RunningView}
use Rattle.duct_running.specs.NumbersView.{NumbersView, numbers_in}

-- a view with these numbers
abbrev pub numbers_with : List ℕ → List ℕ → Option ℕ → Option ℕ → NumbersView
numbers_with children feeds output error = record { children = children; feeds = feeds; output = output; error = error }

module _ {X V : Type 0} (view : X → V) (number_of : X → ℕ) (number : V → ℕ) (has_number : (x : X) → number (view x) ≡ number_of x) where
  numbers_seen : (xs : List X) → map number (map view xs) ≡ map number_of xs
  numbers_seen [] = refl
  numbers_seen (x ∷ xs) = λ i. has_number x i ∷ numbers_seen xs i

  number_seen : (x : Option X) → option_map number (option_map view x) ≡ option_map number_of x
  number_seen None = refl
  number_seen (Some x) = ap (λ n. Some n) (has_number x)

-- with equal numbers the views are equal
pub numbers_same : {children children' feeds feeds' : List ℕ} {output output' error error' : Option ℕ} →
    children ≡ children' → feeds ≡ feeds' → output ≡ output' → error ≡ error' →
    numbers_with children feeds output error ≡ numbers_with children' feeds' output' error'
numbers_same children feeds output error = λ i. numbers_with (children i) (feeds i) (output i) (error i)

-- the numbers of a running expression, read from the children and workers themselves
abbrev pub own_numbers : {C F D : Type 0} → (C → ℕ) → (F → ℕ) → (D → ℕ) → RunningView C F D → NumbersView
own_numbers child feed drain running =
    numbers_with (map child running.children) (map feed running.feeds) (option_map drain running.output) (option_map drain running.error)

-- the numbers in its view are these
pub numbers_own : {C F D V W : Type 0} (child : C → ChildView) (feed : F → JobView V) (drain : D → JobView W)
    (child_number : C → ℕ) (feed_number : F → ℕ) (drain_number : D → ℕ) → ((c : C) → (child c).number ≡ child_number c) →
    ((f : F) → (feed f).number ≡ feed_number f) → ((d : D) → (drain d).number ≡ drain_number d) → (running : RunningView C F D) →
    numbers_in child feed drain running ≡ own_numbers child_number feed_number drain_number running
numbers_own child feed drain child_number feed_number drain_number of_child of_feed of_drain running =
    numbers_same (numbers_seen child child_number (λ (v : ChildView). v.number) of_child running.children)
    (numbers_seen feed feed_number (λ f. f.number) of_feed running.feeds)
    (number_seen drain drain_number (λ d. d.number) of_drain running.output)
    (number_seen drain drain_number (λ d. d.number) of_drain running.error)

-- Tasks of which one is changed, or one after the other.
use Rattle.std.proofs.Common.{◌≡◌, ◌+◌, ◌<◌, ◌≤◌, ap, subst, arith, refl, ℕ, zero, suc, Bool, ◌||◌, if◌then◌else◌, true, false, List, [], ◌∷◌, length, get_or, set, sum_by}
use Rattle.duct_tasks.proofs.Common.{AllZip, get_or-le-sum_by, sum_by-set}

pub changed : {T : Type 0} (f : T → ℕ) (before after : T) (at : ℕ) (tasks : List T)
    → before ≡ get_or tasks at before → at < length tasks
    → (sum_by f (set tasks at after) + f before ≡ sum_by f tasks + f after) ×
    (f before ≤ sum_by f tasks)
changed f before after at tasks is some =
    let same : f before ≡ f (get_or tasks at before) = ap f is in (
      omega (arith, sum_by-set f tasks at after before some),
      omega
          (arith, get_or-le-sum_by f tasks at before some),
    )

-- what follows from each of two tests
pub either : {P : Type 0} (first second : Bool) → (first ≡ true → P) → (second ≡ true → P) → first
    || second ≡ true → P
either true second one other is = one refl
either false second one other is = other is

-- what follows for each test counts no less
pub no_less : (first second : Bool) → (first ≡ true → second ≡ true)
    → (if first then 1 else 0) ≤ (if second then 1 else 0)
no_less false second on = omega arith
no_less true true on = omega arith
no_less true false on = absurd (let is = on refl in cc)

-- two tests of which none holds
pub neither : (first second : Bool) → first || second ≡ false → (first ≡ false) × (second ≡ false)
neither true second none = absurd (cc)
neither false second none = (refl, none)

-- the first so many of these have changed so, and the others are as before
abbrev pub ChangedBelow : {T : Type 0} → (T → T → Type 0) → ℕ → List T → List T → Type 0
ChangedBelow changes zero befores afters = afters ≡ befores
ChangedBelow changes (suc at) [] afters = ⊥
ChangedBelow changes (suc at) (before ∷ befores) [] = ⊥
ChangedBelow changes (suc at) (before ∷ befores) (after ∷ afters) = changes before after ×
    ChangedBelow changes at befores afters

module _ {T : Type 0} (changes : T → T → Type 0) where
  -- one more has
  pub next_changed : (at : ℕ) (befores afters : List T) (before after : T) → ChangedBelow changes at
      befores afters
      → before ≡ get_or afters at before → at < length afters → changes before after
      → ChangedBelow changes (suc at) befores (set afters at after)
  next_changed zero [] [] before after same is some change = absurd (omega (arith, some))
  next_changed zero [] (a ∷ afters) before after same is some change = absurd (cc)
  next_changed zero (b ∷ befores) [] before after same is some change = absurd (omega (arith, some))
  next_changed zero (b ∷ befores) (a ∷ afters) before after same is some change =
      let here : before ≡ b = cc in
      let rest : afters ≡ befores = cc in
      (subst (λ (x : T). changes x after) here change, rest)
  next_changed (suc at) [] afters before after below is some change = absurd below
  next_changed (suc at) (b ∷ befores) [] before after below is some change = absurd below
  next_changed (suc at) (b ∷ befores) (a ∷ afters) before after below is some change =
      (below.0, next_changed at befores afters before after below.1 is (omega (arith, some)) change)

  -- all have
  pub all_changed : (at : ℕ) (befores afters : List T) → ChangedBelow changes at befores afters →
      length afters ≤ at
      → AllZip changes befores afters
  all_changed zero [] [] same all = tt
  all_changed zero [] (a ∷ afters) same all = absurd (cc)
  all_changed zero (b ∷ befores) [] same all = absurd (cc)
  all_changed zero (b ∷ befores) (a ∷ afters) same all = absurd (omega (arith, all))
  all_changed (suc at) [] afters below all = absurd below
  all_changed (suc at) (b ∷ befores) [] below all = absurd below
  all_changed (suc at) (b ∷ befores) (a ∷ afters) below all =
      (below.0, all_changed at befores afters below.1 (omega (arith, all)))

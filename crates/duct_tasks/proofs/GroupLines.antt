-- How many children the runs of lines give to a pool, and lines after lines.
use Rattle.std.proofs.Common.{◌≡◌, ◌+◌, ◌∙◌, ap, sym, subst, inl, inr, ℕ, ℤ, Bool, List, [], ◌∷◌, ◌++◌, Ok, Err, Some, None, Option, Result}
use Rattle.duct_base.proofs.Sieving.{counted_more}
use Rattle.duct_system.specs.declared.system.Output.{Output}
use Rattle.duct_tasks.proofs.Common.{FoldsTo, PoolView, counted, Error, Allows, Refuses, SystemViews, Bytes, IsRun, Expression, ShapeView}
use Rattle.duct_tasks.specs.Groups.{InTurnTried, SignalsGroups, TriedIfLed, Tries}

pub folds_on : {P A : Type 0} (R : P → A → P → Type 0) (p : P) (xs : List A) (m : P) (ys : List A) (q : P)
    → FoldsTo R p xs m → FoldsTo R m ys q → FoldsTo R p (xs ++ ys) q
folds_on {P} {A} R p [] m ys q same more = subst (λ (x : P). FoldsTo R x ys q) (sym same) more
folds_on R p (x ∷ xs) m ys q first more =
    (first.0, first.1, folds_on R first.0 xs m ys q first.2 more)

module _ {S E C F D : Type 0} (views : SystemViews S E C F D (Unit {0}) Bytes) {H : Type 0}
    (allows : Allows H) (refuses : Refuses H) where
  -- so many children were given to the pool in between
  abbrev pub Gives : S × PoolView C → S × PoolView C → Type 0
  Gives before after = (n : ℕ) × (after.1.given ≡ counted before.1.given n)

  pub gives_on : (one two three : S × PoolView C) → Gives one two → Gives two three → Gives one three
  gives_on one two three first second = (
    first.0 + second.0,
    second.1 ∙ ap (λ (n : ℕ). counted n second.0) first.1
        ∙ counted_more one.1.given first.0 second.0,
  )

  gives_none : (before after : S × PoolView C) → after ≡ before → Gives before after
  gives_none before after same = (0, ap (λ (p : S × PoolView C). p.1.given) same)

  run_gives : (line : Expression E H) (before : S × PoolView C) (result : Result Output Error)
      (after : S × PoolView C) → IsRun views allows refuses line before result after
      → Gives before after
  run_gives line before (Ok output) after ran = (0, ran.swept.given_is)
  run_gives line before (Err e) after (inl refused) = (_, refused.given.3.given_is)
  run_gives line before (Err e) after (inr failed) = (_, failed.given.given_is)

  tried_gives : (signal : ℤ) (process : ℕ) (before : S × PoolView C) (led : Option Bool)
      (after : S × PoolView C) → TriedIfLed views allows refuses signal process before led after
      → Gives before after
  tried_gives signal process before None after same = gives_none before after same
  tried_gives signal process before (Some sent) after (inl ran) =
      run_gives ran.line before ran.result after ran.ran
  tried_gives signal process before (Some sent) after (inr none) = gives_none before after none.1

  in_turn_gives : (signal : ℤ) (tries : Tries) (processes : List ℕ) (before after : S × PoolView C)
      → InTurnTried views allows refuses signal tries processes before after → Gives before after
  in_turn_gives signal [] processes before after same = gives_none before after same
  in_turn_gives signal (led ∷ tries) [] before after tried = absurd tried
  in_turn_gives signal (led ∷ tries) (process ∷ processes) before after tried =
      gives_on before tried.0 after (in_turn_gives signal tries processes before tried.0 tried.1)
      (tried_gives signal process tried.0 led after tried.2)

  pub signals_give : (signal : ℤ) (s : ShapeView) (processes : List ℕ) (tries : Tries)
      (before after : S × PoolView C)
      → SignalsGroups views allows refuses signal s processes tries before after
      → Gives before after
  signals_give signal s processes tries before after signals =
      in_turn_gives signal tries processes before after signals.tried

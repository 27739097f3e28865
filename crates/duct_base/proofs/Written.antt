-- What a loop over some items writes: a text of what was written so far and of what is left.
use Rattle.std.proofs.Common.{◌≡◌, ℕ, ◌+◌, ◌<◌, ◌≤◌, List, [], ◌∷◌, Ok, Some, ap, drop, get_or, length, refl, subst, sym, ◌∙◌, Option, Result}
use Rattle.std.proofs.Output.{displays_on_IsOk_append, writes_in_calls_nil}
use Rattle.std.proofs.lemmas.List.{at_drop_all, at_drop_more}
use Rattle.std.specs.Fmt.{DisplaysOnOk, ◌++?◌}
use Rattle.std.specs.declared.fmt.Error.{Error}
use Rattle.std.specs.declared.fmt.Formatter.{Formatter}

module _ {W : Type 0} (took : W → List ℕ → W → Type 0) where
  -- who writes what is left to the second formatter has written all to the first one
  abbrev pub Continues : Formatter W → Option (List ℕ) → Formatter W → Option (List ℕ) → Type 0
  Continues f all g left =
      (result : Result (Unit {0}) Error) (after : Formatter W)
      → DisplaysOnOk took g result left after → DisplaysOnOk took f result all after

  module _ {X : Type 0} (text : ℕ → List X → Option (List ℕ)) (f g : Formatter W)
      (all : Option (List ℕ)) (xs : List X) (i : ℕ) where
    -- one more item was written
    pub continues_more : (one : ℕ → X → Option (List ℕ)) (h : Formatter W) (x : X)
        → ((j : ℕ) (y : X) (ys : List X) → text j (y ∷ ys) ≡ one j y ++? text (j + 1) ys)
        → i < length xs → x ≡ get_or xs i x → DisplaysOnOk took g (Ok tt) (one i x) h
        → Continues f all g (text i (drop i xs)) → Continues f all h (text (i + 1) (drop (i + 1) xs))
    continues_more one h x step more is wrote rest result after displays =
        let left = text (i + 1) (drop (i + 1) xs) in
        let parts : text i (drop i xs) ≡ one i x ++? left =
        at_drop_more (text i) xs i x more ∙ ap (λ (y : X). text i (y ∷ drop (i + 1) xs)) (sym is)
        ∙ step i x (drop (i + 1) xs) in
        subst (λ (o : Option (List ℕ)). Continues f all g o) parts rest result after
        (displays_on_IsOk_append took g h after (Ok tt) result (one i x) left (λ ok. refl) wrote displays)

    -- all items were written
    pub continues_end : text i [] ≡ Some [] → length xs ≤ i
        → Continues f all g (text i (drop i xs)) → DisplaysOnOk took f (Ok tt) all g
    continues_end none over rest =
        subst (λ (o : Option (List ℕ)). Continues f all g o) (at_drop_all (text i) xs i over ∙ none) rest (Ok tt) g
        (λ plain ok. record { wrote = writes_in_calls_nil took g.writer; plain = plain })

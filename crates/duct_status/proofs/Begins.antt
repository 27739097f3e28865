-- Lists that repeat one report: joined, and as the latest reports before the first event.
use Rattle.std.proofs.Common.{◌≡◌, ℕ, zero, suc, ◌+◌, List, [], ◌∷◌, ◌++◌, map, replicate, refl, ap, ◌∙◌, arith, zero-add, append_assoc, cond, Some, None, Option}
use Rattle.std.specs.List.{range_with_len}
use Rattle.duct_system.specs.declared.system.Said.{Said}
use Rattle.duct_system.specs.declared.system.Said.TheVariants as said
use Rattle.duct_status.specs.declared.status.Drains.{Drains}
use Rattle.duct_status.specs.declared.status.Word.{Word}
use Rattle.duct_status.specs.declared.status.Word.TheVariants as word
use Rattle.duct_status.specs.ShapeView.{ShapeView, command_count, input_count}
use Rattle.duct_status.specs.Latest.{latest_told}

replicate_more : {T : Type 0} (a b : ℕ) (x : T)
    → replicate (a + b) x ≡ replicate a x ++ replicate b x
replicate_more zero b x = ap (λ n. replicate n x) (zero-add b)
replicate_more (suc a) b x = let e : suc a + b ≡ suc (a + b) = omega arith in rw e (ap (λ xs. x ∷ xs) (replicate_more a b x))

-- one part after another
pub more : {T : Type 0} (xs ys zs : List T) (a b : ℕ) (x : T) → ys ≡ xs ++ replicate a x
    → zs ≡ ys ++ replicate b x → zs ≡ xs ++ replicate (a + b) x
more xs ys zs a b x e f = rw (f, e, replicate_more a b x) (append_assoc xs (replicate a x) (replicate b x))

-- the same report at each number
pub replicate_map : {T : Type 0} (a n : ℕ) (x : T)
    → replicate n x ≡ map (λ k. x) (range_with_len a n)
replicate_map a zero x = refl
replicate_map a (suc n) x = ap (λ xs. x ∷ xs) (replicate_map (a + 1) n x)

-- the latest reports before the first event
pub first_words : (t : ShapeView) (drains : Drains) (commands : List Word)
    (inputs : List (Said (Unit {0}))) (output error : Option (Said (List ℕ)))
    → commands ≡ [] ++ replicate (command_count t) word.Running
    → inputs ≡ [] ++ replicate (input_count t) said.Running
    → output ≡ cond drains.out (Some said.Running) None
    → error ≡ cond drains.err (Some said.Running) None
    → record { commands = commands; inputs = inputs; drains = record { out = output; err = error } }
    ≡ latest_told t drains []
first_words t drains commands inputs output error e f g h = λ i. record {
  commands = (e ∙ replicate_map 0 (command_count t) word.Running) i;
  inputs = (f ∙ replicate_map 0 (input_count t) said.Running) i;
  drains = record { out = g i; err = h i };
}

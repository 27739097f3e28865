-- Groups that are tried one after another, from the last command on.
use Rattle.std.specs.Prelude.{ℕ, ℤ, zero, suc, Bool, ◌||◌, List, [], ◌∷◌, codes, drop, length, map, is_some, nat_eq, slice_get, string_bytes, Some, Option, String}
use Rattle.std.specs.List.{ends_with}
use Rattle.std.specs.Str.{bytes_eq}
use Rattle.std.specs.declared.alloc.Global.{Global}
use Rattle.std.proofs.Common.{◌≡◌, ◌+◌, ◌∙◌, ◌++◌, refl, ap, sym, subst, arith, length-append}
use Rattle.duct_tasks.proofs.Common.{PoolView, Allows, Refuses, SystemViews, Bytes, ShapeView}
use Rattle.duct_status.specs.ShapeView as shape
use Rattle.duct_status.specs.ShapeView.{command_count}
use Rattle.duct_tasks.specs.Groups.{InTurnTried, SignalsGroups, TriedIfLed, Tries, leaders, leads}

-- there is one for each command
pub length-leaders : (s : ShapeView) → length (leaders s) ≡ command_count s
length-leaders (shape.command words) = refl
length-leaders (shape.pipe left right) =
    omega (
      arith,
      length-append (leaders left) (leaders right),
      length-leaders left,
      length-leaders right,
    )
length-leaders (shape.input inner) = length-leaders inner
length-leaders (shape.unchecked inner) = length-leaders inner

-- a command alone
pub only : (words : List (List ℕ)) (at : ℕ) → at ≡ 0 → slice_get (leaders (shape.command words)) at
    ≡ Some (leads words)
only words at is = ap (λ (n : ℕ). slice_get (leads words ∷ []) n) is

get_front : (xs ys : List Bool) (at : ℕ) (x : Bool) → slice_get xs at ≡ Some x
    → slice_get (xs ++ ys) at ≡ Some x
get_front [] ys at x is = absurd (cc)
get_front (y ∷ xs) ys zero x is = is
get_front (y ∷ xs) ys (suc at) x is = get_front xs ys at x is

get_behind : (xs ys : List Bool) (at rest : ℕ) → at ≡ length xs + rest
    → slice_get (xs ++ ys) at ≡ slice_get ys rest
get_behind [] ys at rest is = ap (λ (n : ℕ). slice_get ys n) (omega (arith, is))
get_behind (x ∷ xs) ys zero rest is = absurd (omega (arith, is))
get_behind (x ∷ xs) ys (suc at) rest is = get_behind xs ys at rest (omega (arith, is))

-- a command on the left of a pipe, and one on the right
pub in_left : (left right : ShapeView) (at : ℕ) (x : Bool) → slice_get (leaders left) at ≡ Some x
    → slice_get (leaders (shape.pipe left right)) at ≡ Some x
in_left left right at x is = get_front (leaders left) (leaders right) at x is

pub in_right : (left right : ShapeView) (at rest : ℕ) (x : Bool) → at ≡ command_count left + rest
    → slice_get (leaders right) rest ≡ Some x
    → slice_get (leaders (shape.pipe left right)) at ≡ Some x
in_right left right at rest x behind is =
    get_behind (leaders left) (leaders right) at rest (omega (arith, behind, length-leaders left))
    ∙ is

-- the first of some words
pub leads_first : (words : List (String Global)) (program : String Global) (r : Bool)
    → Some program ≡ slice_get words 0
    → r ≡ (bytes_eq (string_bytes program) (codes "setsid")
    || ends_with nat_eq (string_bytes program) (codes "/setsid"))
    → r ≡ leads (map string_bytes words)
leads_first [] program r first is = absurd (cc)
leads_first (word ∷ words) program r first is =
    let same : program ≡ word = cc in
    is ∙ ap (λ (w : String Global). bytes_eq (string_bytes w) (codes "setsid")
    || ends_with nat_eq (string_bytes w) (codes "/setsid")) same

drop_all : {X : Type 0} (xs : List X) → drop (length xs) xs ≡ []
drop_all [] = refl
drop_all (x ∷ xs) = drop_all xs

drop_next : {X : Type 0} (xs : List X) (at : ℕ) (x : X) → slice_get xs at ≡ Some x
    → drop at xs ≡ x ∷ drop (suc at) xs
drop_next [] at x is = absurd (cc)
drop_next (y ∷ xs) zero x is = let same : y ≡ x = cc in ap (λ z. z ∷ xs) same
drop_next (y ∷ xs) (suc at) x is = drop_next xs at x is

module _ {S E C F D : Type 0} (views : SystemViews S E C F D (Unit {0}) Bytes) {H : Type 0}
    (allows : Allows H) (refuses : Refuses H) (signal : ℤ) where
  -- the groups of the commands from this place on were tried like this
  pub record TriedFrom (at : ℕ) (led : List Bool) (processes : List ℕ) (tries : Tries)
      (before after : S × PoolView C) : Type 0 where
    pub led_is : map (λ t. is_some t) tries ≡ drop at led
    pub tried : InTurnTried views allows refuses signal tries (drop at processes) before after

  -- from the end on none was
  pub none_tried : (at : ℕ) (led : List Bool) (processes : List ℕ) (now : S × PoolView C)
      → at ≡ length led → TriedFrom at led processes [] now now
  none_tried at led processes now end = record {
    led_is = sym (ap (λ (n : ℕ). drop n led) end ∙ drop_all led);
    tried = refl;
  }

  -- the one before was
  pub one_more_tried : (at : ℕ) (led : List Bool) (processes : List ℕ) (tries : Tries)
      (first now after : S × PoolView C) (one : Option Bool) (process : ℕ)
      → slice_get led at ≡ Some (is_some one) → slice_get processes at ≡ Some process
      → TriedIfLed views allows refuses signal process now one after
      → TriedFrom (suc at) led processes tries first now
      → TriedFrom at led processes (one ∷ tries) first after
  one_more_tried at led processes tries first now after one process is named tried so_far = record {
    led_is = ap (λ (l : List Bool). is_some one ∷ l) so_far.led_is
        ∙ sym (drop_next led at (is_some one) is);
    tried = subst (λ (ps : List ℕ). InTurnTried views allows refuses signal (one ∷ tries) ps first
        after) (sym (drop_next processes at process named)) (now, so_far.tried, tried);
  }

  -- all were
  pub all_tried : (s : ShapeView) (processes : List ℕ) (tries : Tries) (before after : S × PoolView C)
      → TriedFrom 0 (leaders s) processes tries before after
      → SignalsGroups views allows refuses signal s processes tries before after
  all_tried s processes tries before after so_far = record {
    led = so_far.led_is;
    tried = so_far.tried;
  }

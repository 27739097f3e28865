-- Depths of a stack, and lists of actions one after the other.
use Rattle.std.proofs.Common.{◌≡◌, ℕ, suc, zero, ◌<◌, ◌≤◌, List, [], ◌∷◌, ◌++◌, length, refl, ap, sym, ◌∙◌, arith, subst, Some, slice_get, reverse}
use Rattle.duct_run.proofs.Common.{length-reverse, reverse-append, slice_get_within, Action, State, at_depth, pop_count, Needs, IsReady, AreReady, Leads, after_actions, advance}

pub get_seam : {A : Type 0} (xs : List A) (x : A) → slice_get (xs ++ x ∷ []) (length xs) ≡ Some x
get_seam [] x = refl
get_seam (y ∷ xs) x = get_seam xs x

pub get_front : {A : Type 0} (xs ys : List A) (n : ℕ) (x : A) → slice_get xs n ≡ Some x
    → slice_get (xs ++ ys) n ≡ Some x
get_front [] ys n x is = cc
get_front (y ∷ xs) ys zero x is = is
get_front (y ∷ xs) ys (suc n) x is = get_front xs ys n x is

-- the depth of a pushed element is the length of the stack that it was pushed onto
pub level_top : {A : Type 0} (stack : List A) (x : A) (n : ℕ) → n ≡ length stack
    → at_depth (x ∷ stack) n ≡ Some x
level_top stack x n is =
    ap (λ l. slice_get l n) (reverse-append (x ∷ []) stack)
    ∙ ap (λ k. slice_get (reverse stack ++ x ∷ []) k) (is ∙ sym (length-reverse stack)) ∙ get_seam (reverse stack) x

-- an element below it keeps its depth
pub level_under : {A : Type 0} (stack : List A) (x y : A) (n : ℕ) → at_depth stack n ≡ Some y
    → at_depth (x ∷ stack) n ≡ Some y
level_under stack x y n is = ap (λ l. slice_get l n) (reverse-append (x ∷ []) stack) ∙ get_front (reverse stack) (x ∷ []) n y is

pub level_within : {A : Type 0} (stack : List A) (x : A) (n : ℕ) → at_depth stack n ≡ Some x
    → n < length stack
level_within stack x n is = omega (arith, slice_get_within (reverse stack) n x is, length-reverse stack)

module _ {E H : Type 0} (number_of : E → ℕ) (base bound : ℕ) where
  ready-append : (state : State E H) (xs ys : List (Action E H)) →
      AreReady number_of base bound state xs → AreReady number_of base bound (after_actions state xs) ys → AreReady number_of base bound state (xs ++ ys)
  ready-append state [] ys first second = second
  ready-append state (x ∷ xs) ys first second = (first.0, ready-append (advance state x) xs ys first.1 second)

  after_actions-append : (state : State E H) (xs ys : List (Action E H))
      → after_actions state (xs ++ ys) ≡ after_actions (after_actions state xs) ys
  after_actions-append state [] ys = refl
  after_actions-append state (x ∷ xs) ys = after_actions-append (advance state x) xs ys

  pub leads_none : (state : State E H) → Leads number_of base bound state [] state
  leads_none state = record { ready = tt; is = refl }

  pub leads_cons : (state next : State E H) (x : Action E H) (ys : List (Action E H))
      → IsReady number_of base bound state x
      → Leads number_of base bound (advance state x) ys next
      → Leads number_of base bound state (x ∷ ys) next
  leads_cons state next x ys ready rest = record { ready = (ready, rest.ready); is = rest.is }

  pub leads_append : (state mid next : State E H) (xs ys : List (Action E H))
      → Leads number_of base bound state xs mid → Leads number_of base bound mid ys next
      → Leads number_of base bound state (xs ++ ys) next
  leads_append state mid next xs ys first second = record {
    ready = ready-append state xs ys first.ready (subst (λ (s : State E H). AreReady number_of base bound s ys) (sym first.is) second.ready);
    is = after_actions-append state xs ys ∙ ap (λ (s : State E H). after_actions s ys) first.is ∙ second.is;
  }

  -- one action that pops nothing
  pub leads_one : (state : State E H) (x : Action E H) (next : State E H) → pop_count x ≡ 0
      → Needs number_of base bound state x → advance state x ≡ next → length next.stack ≤ bound
      → Leads number_of base bound state (x ∷ []) next
  leads_one state x next none needs is low = record {
    ready = (record { full = omega (arith, none); needs = needs; low = omega (arith, ap (λ (s : State E H). length s.stack) is, low) }, tt);
    is = is;
  }

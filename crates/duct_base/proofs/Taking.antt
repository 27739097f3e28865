-- Children that are given to a pool one after another.
use Rattle.std.proofs.Common.{ℕ, ◌≡◌, ◌+◌, ◌^◌, ◌<◌, List, [], ◌∷◌, ◌++◌, length, refl, ap, sym, ◌∙◌, arith, append_assoc, length-append, Ok, None}
use Rattle.std.proofs.lemmas.List.{append-nil}
use Rattle.duct_system.specs.Child.{Answer, ChildView, PollsChild}
use Rattle.duct_base.specs.Pool.{PoolView, IsGiven, counted}
use Rattle.duct_base.proofs.Sieving.{Takes, counted_more, sieves-append, sieves_fewer}

module _ {C : Type 0} (may : ℕ → Answer → Type 0) (view : C → ChildView) where
  -- some children, and then others
  pub takes_append : (taken more : List C) (before mid after : PoolView C)
      → Takes may view taken before mid → Takes may view more mid after
      → Takes may view (taken ++ more) before after
  takes_append taken more before mid after first second = record {
    kept = first.kept ++ second.kept;
    reaped = first.reaped + second.reaped;
    lost = first.lost + second.lost;
    asked = sieves-append (λ child. may (view child).number) (λ child kept. PollsChild may (view child) (Ok None) (view kept))
        taken more first.kept second.kept first.reaped first.lost second.reaped second.lost first.asked second.asked;
    children_are = second.children_are ∙ ap (λ (l : List C). l ++ second.kept) first.children_are ∙ append_assoc before.children first.kept second.kept;
    given_is = second.given_is ∙ ap (λ (n : ℕ). counted n (length more)) first.given_is ∙ counted_more before.given (length taken) (length more)
        ∙ ap (λ (n : ℕ). counted before.given n) (sym (length-append taken more));
    reaped_is = second.reaped_is ∙ ap (λ (n : ℕ). counted n second.reaped) first.reaped_is ∙ counted_more before.reaped first.reaped second.reaped;
    lost_is = second.lost_is ∙ ap (λ (n : ℕ). counted n second.lost) first.lost_is ∙ counted_more before.lost first.lost second.lost;
  }

  -- no child
  pub given_none : (pool : PoolView C) → IsGiven may view [] pool pool
  given_none pool = record {
    counts = refl;
    stays = ([], sym (append-nil pool.children));
    takes = λ fits. record {
      kept = [];
      reaped = 0;
      lost = 0;
      asked = (refl, refl, refl);
      children_are = sym (append-nil pool.children);
      given_is = refl;
      reaped_is = refl;
      lost_is = refl;
    };
  }

  -- some children, and one more
  pub given_next : (taken : List C) (child : C) (before mid after : PoolView C)
      → IsGiven may view taken before mid → IsGiven may view (child ∷ []) mid after
      → IsGiven may view (taken ++ child ∷ []) before after
  given_next taken child before mid after first one =
      let many : length (taken ++ child ∷ []) ≡ length taken + 1 = length-append taken (child ∷ []) in
      record {
        counts = one.counts ∙ ap (λ (n : ℕ). counted n 1) first.counts ∙ counted_more before.given (length taken) 1
            ∙ ap (λ (n : ℕ). counted before.given n) (sym many);
        stays = (
          first.stays.0 ++ one.stays.0,
          one.stays.1 ∙ ap (λ (l : List C). l ++ one.stays.0) first.stays.1
              ∙ append_assoc before.children first.stays.0 one.stays.0,
        );
        takes = λ fits.
            let few : length before.children + length taken < 2 ^ 63 = omega (arith, fits, many) in
            let t = first.takes few in
            let fewer = sieves_fewer (λ child. may (view child).number) (λ child kept. PollsChild may (view child) (Ok None) (view kept)) taken t.kept t.reaped t.lost t.asked in
            let low : length mid.children + 1 < 2 ^ 63 = omega (arith, fits, many, fewer, ap (λ (l : List C). length l) t.children_are, length-append before.children t.kept) in
            takes_append taken (child ∷ []) before mid after t (one.takes low);
      }

-- How a start changes a pool: sweeps one after the other, and then the children that it started.
use Rattle.std.proofs.Common.{◌≡◌, ℕ, ◌+◌, ◌^◌, ◌<◌, ◌≤◌, List, [], ◌∷◌, ◌++◌, length, refl, ap, sym, ◌∙◌, arith, subst, inl, inr, map, Ok, Err, Some, None, All}
use Rattle.std.proofs.lemmas.Simd.{map-map}
use Rattle.duct_run.proofs.Common.{append-nil, map-append, length-map, All-cons, All-nil, All-head, All-tail, PoolView, IsGiven, Sieves, counted, Answer, ChildView, PollsChild, IsUnasked, EntryView, children_in, segment, Leaves, LeavesStarted, StaysInPool, TakesIn, pool_view}
use Rattle.duct_base.proofs.Sieving.{AsksAll, IsSwept, Takes, counted_more, sieves_fewer}
use Rattle.duct_base.proofs.Taking.{given_none}
use Rattle.duct_run.proofs.Whole.{segment-added}

stays_same : (child : ChildView) → StaysInPool child child
stays_same child = record { number_is = refl; process_is = refl; orders_are = refl }

stays_on : (one two three : ChildView) → StaysInPool one two → StaysInPool two three
    → StaysInPool one three
stays_on one two three first second = record {
  number_is = second.number_is ∙ first.number_is;
  process_is = second.process_is ∙ first.process_is;
  orders_are = second.orders_are ∙ first.orders_are;
}

module _ (may : ℕ → Answer → Type 0) where
  abbrev MayChild : ChildView → Answer → Type 0
  MayChild child = may child.number

  stays_polled : (before after : ChildView) → PollsChild may before (Ok None) after
      → StaysInPool before after
  stays_polled before after polls = record {
    number_is = ap (λ (c : ChildView). c.number) polls.after_is;
    process_is = ap (λ (c : ChildView). c.process) polls.after_is;
    orders_are = ap (λ (c : ChildView). c.orders) polls.after_is;
  }

  -- children that were not polled
  stays_all : (children : List ChildView) → Sieves MayChild StaysInPool children children 0 0
  stays_all [] = (refl, refl, refl)
  stays_all (child ∷ children) = inl (child, children, stays_same child, refl, stays_all children)

  -- a child that was kept once, and then polled with the children that were kept after it
  kept_once : (child kept : ChildView) (children rest left : List ChildView) (r l r' l' : ℕ)
      → StaysInPool child kept →
      ((left : List ChildView) (r' l' : ℕ) → Sieves MayChild StaysInPool rest left r' l' → Sieves MayChild StaysInPool children left (r + r') (l + l')) →
      Sieves MayChild StaysInPool (kept ∷ rest) left r' l' → Sieves MayChild StaysInPool (child ∷ children) left (r + r') (l + l')
  kept_once child kept children rest left r l r' l' stays behind (inl s) =
      inl (s.0, s.1, stays_on child kept s.0 stays s.2, s.3, behind s.1 r' l' s.4)
  kept_once child kept children rest left r l r' l' stays behind (inr (inl s)) =
      inr (inl (s.0, r + s.1, subst (λ (n : ℕ). may n (Ok (Some s.0))) stays.number_is s.2, omega (arith, s.3), behind left s.1 l' s.4))
  kept_once child kept children rest left r l r' l' stays behind (inr (inr s)) =
      inr (inr (s.0, l + s.1, subst (λ (n : ℕ). may n (Err s.0)) stays.number_is s.2, omega (arith, s.3), behind left r' s.1 s.4))

  -- children that were polled twice
  sieves_twice : (children mid left : List ChildView) (r l r' l' : ℕ)
      → Sieves MayChild StaysInPool children mid r l → Sieves MayChild StaysInPool mid left r' l' →
      Sieves MayChild StaysInPool children left (r + r') (l + l')
  sieves_twice [] mid left r l r' l' first second =
      let none : Sieves MayChild StaysInPool [] left r' l' = subst (λ (m : List ChildView). Sieves MayChild StaysInPool m left r' l') first.0 second in
      (none.0, omega (arith, first.1, none.1), omega (arith, first.2, none.2))
  sieves_twice (child ∷ children) mid left r l r' l' (inl s) second =
      kept_once child s.0 children s.1 left r l r' l' s.2 (λ left' r'' l'' more. sieves_twice children s.1 left' r l r'' l'' s.4 more)
      (subst (λ (m : List ChildView). Sieves MayChild StaysInPool m left r' l') s.3 second)
  sieves_twice (child ∷ children) mid left r l r' l' (inr (inl s)) second =
      inr (inl (s.0, s.1 + r', s.2, omega (arith, s.3), sieves_twice children mid left s.1 l r' l' s.4 second))
  sieves_twice (child ∷ children) mid left r l r' l' (inr (inr s)) second =
      inr (inr (s.0, s.1 + l', s.2, omega (arith, s.3), sieves_twice children mid left r s.1 r' l' s.4 second))

  -- the pool is unchanged
  pub leaves_same : (pool : PoolView ChildView) → Leaves may [] pool pool
  leaves_same pool = record {
    old = pool.children;
    new = [];
    reaped = 0;
    lost = 0;
    reaped_new = 0;
    lost_new = 0;
    children_are = sym (append-nil pool.children);
    old_are = stays_all pool.children;
    new_are = (refl, refl, refl);
    given_is = refl;
    reaped_is = refl;
    lost_is = refl;
  }

  -- if no child was given, there are no more children than before
  pub leaves_fewer : (before after : PoolView ChildView) → Leaves may [] before after
      → length after.children ≤ length before.children
  leaves_fewer before after leaves =
      let none = leaves.new_are in
      let left : after.children ≡ leaves.old = leaves.children_are ∙ ap (λ (l : List ChildView). leaves.old ++ l) none.0 ∙ append-nil leaves.old in
      omega (arith, ap (λ (l : List ChildView). length l) left, sieves_fewer MayChild StaysInPool before.children leaves.old leaves.reaped leaves.lost leaves.old_are)

  -- first no child was given, and then these children
  pub leaves_on : (given : List ChildView) (before mid after : PoolView ChildView)
      → Leaves may [] before mid → Leaves may given mid after → Leaves may given before after
  leaves_on given before mid after first second =
      let none = first.new_are in
      let kept : mid.children ≡ first.old = first.children_are ∙ ap (λ (l : List ChildView). first.old ++ l) none.0 ∙ append-nil first.old in
      let reaped : first.reaped + first.reaped_new + (second.reaped + second.reaped_new) ≡ first.reaped + second.reaped + second.reaped_new = omega (arith, none.1) in
      let lost : first.lost + first.lost_new + (second.lost + second.lost_new) ≡ first.lost + second.lost + second.lost_new = omega (arith, none.2) in
      record {
        old = second.old;
        new = second.new;
        reaped = first.reaped + second.reaped;
        lost = first.lost + second.lost;
        reaped_new = second.reaped_new;
        lost_new = second.lost_new;
        children_are = second.children_are;
        old_are = sieves_twice before.children first.old second.old first.reaped first.lost second.reaped second.lost first.old_are
            (subst (λ (l : List ChildView). Sieves MayChild StaysInPool l second.old second.reaped second.lost) kept second.old_are);
        new_are = second.new_are;
        given_is = second.given_is ∙ ap (λ (n : ℕ). counted n (length given)) first.given_is;
        reaped_is = second.reaped_is ∙ ap (λ (n : ℕ). counted n (second.reaped + second.reaped_new)) first.reaped_is
            ∙ counted_more before.reaped (first.reaped + first.reaped_new) (second.reaped + second.reaped_new) ∙ ap (λ (n : ℕ). counted before.reaped n) reaped;
        lost_is = second.lost_is ∙ ap (λ (n : ℕ). counted n (second.lost + second.lost_new)) first.lost_is
            ∙ counted_more before.lost (first.lost + first.lost_new) (second.lost + second.lost_new) ∙ ap (λ (n : ℕ). counted before.lost n) lost;
      }

  module _ {C : Type 0} (view : C → ChildView) where
    -- children by their views
    asked_seen : (keeps : ChildView → ChildView → Type 0)
        → ((before after : ChildView) → PollsChild may before (Ok None) after → keeps before after)
        →
        (children left : List C) (r l : ℕ) → AsksAll may view children left r l → Sieves MayChild keeps (map view children) (map view left) r l
    asked_seen keeps by [] left r l none = (ap (λ (l : List C). map view l) none.0, none.1, none.2)
    asked_seen keeps by (child ∷ children) left r l (inl s) =
        inl (view s.0, map view s.1, by (view child) (view s.0) s.2, ap (λ (l : List C). map view l) s.3, asked_seen keeps by children s.1 r l s.4)
    asked_seen keeps by (child ∷ children) left r l (inr (inl s)) = inr (inl (s.0, s.1, s.2, s.3, asked_seen keeps by children left s.1 l s.4))
    asked_seen keeps by (child ∷ children) left r l (inr (inr s)) = inr (inr (s.0, s.1, s.2, s.3, asked_seen keeps by children left r s.1 s.4))

    -- each child of the pool was polled
    pub leaves_swept : (before after : PoolView C) → IsSwept may view before after
        → Leaves may [] (pool_view view before) (pool_view view after)
    leaves_swept before after swept =
        let reaped : swept.reaped ≡ swept.reaped + 0 = omega arith in
        let lost : swept.lost ≡ swept.lost + 0 = omega arith in
        record {
          old = map view swept.kept;
          new = [];
          reaped = swept.reaped;
          lost = swept.lost;
          reaped_new = 0;
          lost_new = 0;
          children_are = ap (λ (l : List C). map view l) swept.children_are ∙ sym (append-nil (map view swept.kept));
          old_are = asked_seen StaysInPool stays_polled before.children swept.kept swept.reaped swept.lost swept.asked;
          new_are = (refl, refl, refl);
          given_is = swept.given_is;
          reaped_is = swept.reaped_is ∙ ap (λ (n : ℕ). counted before.reaped n) reaped;
          lost_is = swept.lost_is ∙ ap (λ (n : ℕ). counted before.lost n) lost;
        }

    -- these children were given to the pool
    pub leaves_taken : (children : List C) (before after : PoolView C)
        → Takes may view children before after
        → Leaves may (map view children) (pool_view view before) (pool_view view after)
    leaves_taken children before after takes =
        let reaped : takes.reaped ≡ 0 + takes.reaped = omega arith in
        let lost : takes.lost ≡ 0 + takes.lost = omega arith in
        record {
          old = map view before.children;
          new = map view takes.kept;
          reaped = 0;
          lost = 0;
          reaped_new = takes.reaped;
          lost_new = takes.lost;
          children_are = ap (λ (l : List C). map view l) takes.children_are ∙ map-append view before.children takes.kept;
          old_are = stays_all (map view before.children);
          new_are = asked_seen (λ child kept. PollsChild may child (Ok None) kept) (λ child kept polls. polls) children takes.kept takes.reaped takes.lost takes.asked;
          given_is = takes.given_is ∙ ap (λ (n : ℕ). counted before.given n) (sym (length-map children view));
          reaped_is = takes.reaped_is ∙ ap (λ (n : ℕ). counted before.reaped n) reaped;
          lost_is = takes.lost_is ∙ ap (λ (n : ℕ). counted before.lost n) lost;
        }

    -- these children were given to the pool after any number of sweeps
    pub takes_in : (children : List C) (before mid after : PoolView C)
        → Leaves may [] (pool_view view before) (pool_view view mid)
        → IsGiven may view children mid after
        → TakesIn may (map view children) (pool_view view before) (pool_view view after)
    takes_in children before mid after swept given =
        let seen = length-map children view in
        let kept : map view mid.children ≡ swept.old = swept.children_are ∙ ap (λ (l : List ChildView). swept.old ++ l) swept.new_are.0 ∙ append-nil swept.old in
        let fewer = leaves_fewer (pool_view view before) (pool_view view mid) swept in
        record {
          old = swept.old;
          more = map view given.stays.0;
          reaped = swept.reaped;
          lost = swept.lost;
          children_are = ap (λ (l : List C). map view l) given.stays.1 ∙ map-append view mid.children given.stays.0
              ∙ ap (λ (l : List ChildView). l ++ map view given.stays.0) kept;
          old_are = swept.old_are;
          given_is = given.counts ∙ ap (λ (n : ℕ). counted mid.given n) (sym seen) ∙ ap (λ (n : ℕ). counted n (length (map view children))) swept.given_is;
          all = λ fits.
              let low : length mid.children + length children < 2 ^ 63 = omega (arith, fits, seen, fewer, length-map mid.children view) in
              leaves_on (map view children) (pool_view view before) (pool_view view mid) (pool_view view after) swept (leaves_taken children mid after (given.takes low));
        }

    -- no request was made
    pub leaves_unasked : (entries : List EntryView) (pool : PoolView C)
        → LeavesStarted may view (segment entries entries) pool pool
    leaves_unasked entries pool =
        let nothing : segment entries entries ≡ [] = ap (λ (l : List EntryView). segment entries l) (sym (append-nil entries)) ∙ segment-added entries [] in (
          [],
          sym (ap (λ (l : List EntryView). children_in l) nothing),
          All-nil IsUnasked,
          takes_in [] pool pool pool (leaves_same (pool_view view pool)) (given_none may view pool),
        )

    unasked_seen : (children : List C) → All (λ c. IsUnasked (view c)) children
        → All IsUnasked (map view children)
    unasked_seen [] all = All-nil IsUnasked
    unasked_seen (child ∷ children) all =
        All-cons IsUnasked (view child) (map view children) (All-head (λ c. IsUnasked (view c)) child children all) (unasked_seen children (All-tail (λ c. IsUnasked (view c)) child children all))

    -- the pool was swept any number of times, and then it was given each child that was started
    pub leaves_started : (children : List C) (added : List EntryView)
        (before mid after : PoolView C)
        → Leaves may [] (pool_view view before) (pool_view view mid)
        → IsGiven may view children mid after
        → map (λ c. (view c).number) children ≡ children_in added
        → All (λ c. IsUnasked (view c)) children → LeavesStarted may view added before after
    leaves_started children added before mid after swept given numbers unasked = (
      map view children,
      map-map (λ (c : ChildView). c.number) view children ∙ numbers,
      unasked_seen children unasked,
      takes_in children before mid after swept given,
    )

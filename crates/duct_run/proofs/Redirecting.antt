-- The streams of a command are among the ends on a stack, and each may be changed to another end.
use Rattle.std.proofs.Common.{◌≡◌, ℕ, suc, zero, ◌<◌, ◌≤◌, List, [], ◌∷◌, ◌++◌, length, refl, ap, sym, ◌∙◌, arith, subst, length-append, get_or, All, Err, None, Ok, Some, map, slice_get, option_map}
use Rattle.duct_run.proofs.Common.{All-head, All-tail, slice_get-get_or, slice_get-map, Close, Duplicate, JournalView, GetsEnd, GivesEnds, IsRefused, count_of, end_of, System, Port, Fault, Stdio, Inherit, Null, End, State, Allows, end_of_place, missing_at, stream_after_hook, IsAlike, CloseSucceeds, RedirectSucceeds, RedirectFails, resources_with_stack, with_stack, Target, Lends, ResourcesView, open_ends, ends_of_pipes, RunContext, IsEarly, IsFrom, RunInvariant, count-append}
use Rattle.std.proofs.lemmas.Bool.Decides.{nat_tests}
use Rattle.duct_system.specs.declared.spec.Port.TheVariants as port
use Rattle.duct_run.specs.Actions as action
use Rattle.duct_run.proofs.Going.{close_succeeds, duplicate_fails, lend_succeeds}
use Rattle.duct_run.proofs.Sources.{pair_swapped}

-- two equal lists whose parts have the same lengths have the same parts
pub split_first : {A : Type 0} (xs us ys vs : List A) → length xs ≡ length us → xs ++ ys ≡ us ++ vs
    → xs ≡ us
split_first [] [] ys vs same is = refl
split_first [] (u ∷ us) ys vs same is = absurd (omega (arith, same))
split_first (x ∷ xs) [] ys vs same is = absurd (omega (arith, same))
split_first (x ∷ xs) (u ∷ us) ys vs same is =
    let rest : length xs ≡ length us = omega (arith, same) in
    let tail : xs ++ ys ≡ us ++ vs = cc in
    let head : x ≡ u = cc in
    λ i. head i ∷ split_first xs us ys vs rest tail i

pub split_second : {A : Type 0} (xs us ys vs : List A) → length xs ≡ length us
    → xs ++ ys ≡ us ++ vs → ys ≡ vs
split_second [] [] ys vs same is = is
split_second [] (u ∷ us) ys vs same is = absurd (omega (arith, same))
split_second (x ∷ xs) [] ys vs same is = absurd (omega (arith, same))
split_second (x ∷ xs) (u ∷ us) ys vs same is =
    let rest : length xs ≡ length us = omega (arith, same) in
    let tail : xs ++ ys ≡ us ++ vs = cc in
    split_second xs us ys vs rest tail

module _ {E H : Type 0} (allows : Allows H) (number_of : E → ℕ) where
  -- two groups of ends on the stack, one after the other, are swapped
  pub swapped : (context : RunContext) (state : State E H) (now : JournalView) (held : ResourcesView)
      (a b c : List ℕ) (x y z : List (Target E)) → length a ≡ length x → length b ≡ length y
      → RunInvariant allows number_of context (with_stack (x ++ (y ++ z)) state) now
      (resources_with_stack (a ++ (b ++ c)) held)
      → RunInvariant allows number_of context (with_stack (y ++ (x ++ z)) state) now
      (resources_with_stack (b ++ (a ++ c)) held)
  swapped context state now held a b c x y z one other invariant =
      let pairs = ends_of_pipes held.pipes in
      let same : (n : ℕ) → count_of n (open_ends (resources_with_stack (b ++ (a ++ c)) held)) ≡ count_of n (open_ends (resources_with_stack (a ++ (b ++ c)) held)) =
      λ n. omega (arith, count-append n (a ++ (b ++ c)) pairs, count-append n (b ++ (a ++ c)) pairs, count-append n a (b ++ c), count-append n b c, count-append n b (a ++ c), count-append n a c) in
      let long : length (open_ends (resources_with_stack (b ++ (a ++ c)) held)) ≡ length (open_ends (resources_with_stack (a ++ (b ++ c)) held)) =
      omega (arith, length-append (a ++ (b ++ c)) pairs, length-append (b ++ (a ++ c)) pairs, length-append a (b ++ c), length-append b c, length-append b (a ++ c), length-append a c) in
      let ledger = invariant.ledger in
      record {
        added = invariant.added;
        ledger = record {
          entries_are = ledger.entries_are;
          counted = ledger.counted;
          even = λ n. omega (arith, ledger.even n, same n);
          once = ledger.once;
          below = ledger.below;
          above = ledger.above;
          next_grows = ledger.next_grows;
          long = omega (arith, ledger.long, long);
          room_is = omega (arith, ledger.room_is, long);
          children_are = ledger.children_are;
          feeds_are = ledger.feeds_are;
          drains_are = ledger.drains_are;
        };
        few = invariant.few;
        kinds = invariant.kinds;
        shaped = record {
          stack = omega (arith, invariant.shaped.stack, length-append a (b ++ c), length-append b c, length-append b (a ++ c), length-append a c, length-append x (y ++ z), length-append y z, length-append y (x ++ z), length-append x z);
          pipes = invariant.shaped.pipes;
        };
        begins = invariant.begins;
        starts = invariant.starts;
        answers = invariant.answers;
        sources = λ more later. let s = invariant.sources more later in record { stack = pair_swapped (IsFrom (IsEarly context) number_of (invariant.added ++ more)) a b c x y z one other s.stack; pipes = s.pipes };
        clean = invariant.clean;
      }

  -- the end of a stream is closed
  pub lets_go : (n : ℕ) (now then : JournalView) → GivesEnds (Close n) 1 now then
      → CloseSucceeds {E = E} {H = H} allows number_of now then (End n)
  lets_go n now then gives context state held over under above below Inherit alike same invariant low = absurd alike
  lets_go n now then gives context state held over under above below Null alike same invariant low = absurd alike
  lets_go n now then gives context state held over under above below (End t) alike same invariant low =
      let first = swapped context state now held over (n ∷ []) under above (t ∷ []) below same refl invariant in
      close_succeeds allows number_of n (over ++ under) now then (resources_with_stack (n ∷ (over ++ under)) held) refl gives context (with_stack (t ∷ (above ++ below)) state)
      (record { full = omega arith; needs = tt; low = omega (arith, low, length-append above (t ∷ below), length-append above below) }) first

  lower_at : (base : ℕ) (open_ends : List E) (place : ℕ) (end : E) → All (λ e. number_of e < base) open_ends
      → slice_get open_ends place ≡ Some end → number_of end < base
  lower_at base [] place end all is = cc
  lower_at base (x ∷ open_ends) zero end all is = let same : x ≡ end = cc in subst (λ e. number_of e < base) same (All-head (λ e. number_of e < base) x open_ends all)
  lower_at base (x ∷ open_ends) (suc place) end all is = lower_at base open_ends place end (All-tail (λ e. number_of e < base) x open_ends all) is

  -- a stream is changed to one of the hook's ends, by a duplicate of it
  pub redirects_place : (open_ends : List E) (place n : ℕ) (end : E) (old : Stdio ℕ)
      (now mid then : JournalView) → slice_get open_ends place ≡ Some end
      → GetsEnd (Duplicate (number_of end) (Ok n)) n now mid
      → CloseSucceeds {E = E} {H = H} allows number_of mid then old
      → RedirectSucceeds {E = E} {H = H} allows number_of open_ends (port.Place place) now then old (End n)
  redirects_place open_ends place n end old now mid then at gets goes = λ context state held over under above below target alike same lower low invariant.
      let stack = above ++ (end_of target ++ below) in
      let ready : action.IsReady number_of context.base context.bound (with_stack stack state) (action.duplicate_caller_end end) =
      record { full = omega arith; needs = lower_at context.base open_ends place end lower at; low = omega (arith, low) } in
      let lent = lend_succeeds allows number_of end n now mid (resources_with_stack (over ++ (end_of old ++ under)) held) gets context (with_stack stack state) ready invariant in
      let more : length (n ∷ over) ≡ length (Lends end ∷ above) = omega (arith, same) in
      let le : length (Lends end ∷ stack) ≤ context.bound = omega (arith, low) in
      let left = goes context state held (n ∷ over) under (Lends end ∷ above) below target alike more lent le in
      let is : End (Lends end) ≡ stream_after_hook (map Lends open_ends) (port.Place place) target = sym (ap end_of_place (slice_get-map Lends open_ends place ∙ ap (λ o. option_map Lends o) at)) in (
        subst (λ (t : Stdio (Target E)). IsAlike (End n) t) is tt,
        subst (λ (t : Stdio (Target E)). RunInvariant allows number_of context (with_stack (above ++ (end_of t ++ below)) state) then (resources_with_stack (over ++ (n ∷ under)) held)) is
            (swapped context state then held (n ∷ []) over under (Lends end ∷ []) above below refl same left),
      )

  -- the request for the duplicate was refused
  pub unredirected : (open_ends : List E) (place : ℕ) (end : E) (fault : Fault) (now then : JournalView)
      → slice_get open_ends place ≡ Some end
      → IsRefused (Duplicate (number_of end) (Err fault)) 0 fault now then
      → RedirectFails {E = E} {H = H} allows number_of open_ends now then (System fault)
  unredirected open_ends place end fault now then at refused = λ context state held stack targets lower low invariant. (
    (λ no. no),
    duplicate_fails allows number_of fault now then (resources_with_stack stack held) (action.duplicate_caller_end end) (number_of end) (λ st. refl) refused context (with_stack targets state)
        (record { full = omega arith; needs = lower_at context.base open_ends place end lower at; low = omega (arith, low) }) invariant,
  )

-- the end at a place that a hook has
pub end_there : {E : Type 0} (open_ends : List E) (place : ℕ) (end other : E)
    → missing_at (length open_ends) (port.Place place) ≡ None → end ≡ get_or open_ends place other
    → slice_get open_ends place ≡ Some end
end_there open_ends place end other there is =
    let within : place < length open_ends = grind (arith, nat_tests) in
    slice_get-get_or open_ends place other within ∙ ap (λ e. Some e) (sym is)

-- the same for an equal port
pub redirects_at : {E H : Type 0} (allows : Allows H) (number_of : E → ℕ) (open_ends : List E) (p q : Port)
    (now then : JournalView) (old new : Stdio ℕ) → p ≡ q
    → RedirectSucceeds {E = E} {H = H} allows number_of open_ends p now then old new
    → RedirectSucceeds {E = E} {H = H} allows number_of open_ends q now then old new
redirects_at {E} {H} allows number_of open_ends p q now then old new is redirects = subst (λ (x : Port). RedirectSucceeds {E = E} {H = H} allows number_of open_ends x now then old new) is redirects

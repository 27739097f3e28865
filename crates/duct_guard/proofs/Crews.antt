-- How the running children of a guard change.
use Rattle.duct_guard.proofs.Common.{swap_remove, append-nil, get_or_default, length-map, ∥∥₁_map, ∥∥₁_map₂, ∥∥₁_elim, EntryView, child_by, children_in, HasEnded, HaveEnded, IsCrew, Joins, Leaves, held_after, with_entry, Held}
use Rattle.std.specs.List.Sorted.{IsPermutation}
use Rattle.std.proofs.Common.{◌≡◌, ap, sym, subst, ◌∙◌, arith, append_assoc, ◌+◌, ◌<◌, ◌≤◌, ℕ, List, [], ◌∷◌, ◌++◌, length, map, get_or}
use Rattle.std.proofs.lemmas.List.{length-append}
use Rattle.std.proofs.lemmas.List.Sorted.{IsPermutation-append_comm, IsPermutation-append_left, IsPermutation-append_right, IsPermutation-map, IsPermutation-refl, IsPermutation-swap_remove, IsPermutation-trans, length_permutation}
use Rattle.std.proofs.Math.Bridge.{le_prop}
use Rattle.duct_system.specs.Child.{Answer}
use Rattle.duct_guard.proofs.Holding.{children_now}

-- an element that was read twice
pub read_twice : {M : Type 0} (crew : List M) (place : ℕ) (one other : M) → place < length crew
    → one ≡ get_or crew place one → other ≡ get_or crew place other → one ≡ other
read_twice crew place one other within first second =
    first ∙ get_or_default crew place one other within ∙ sym second

children_append : (entries : List EntryView) (entry : EntryView)
    → children_in (entries ++ entry ∷ []) ≡ children_in entries ++ child_by entry
children_append [] entry = append-nil (child_by entry)
children_append (e ∷ es) entry =
    ap (λ l. child_by e ++ l) (children_append es entry) ∙ sym (append_assoc (child_by e) (children_in es) (child_by entry))

-- the count of children, by those that were started
held_children : (held : Held) (entries : List EntryView)
    → (held_after held entries).children ≡ held.children + length (children_in entries)
held_children held [] = omega arith
held_children held (e ∷ es) =
    let rest = held_children (with_entry held e) es in
    let parts = length-append (child_by e) (children_in es) in
    let now = children_now held e in omega (arith, rest, parts, now)

module _ (may_answer : ℕ → Answer → Type 0) where
  both_ended : (one other : List ℕ) → HaveEnded may_answer one → HaveEnded may_answer other
      → HaveEnded may_answer (one ++ other)
  both_ended [] other first second = second
  both_ended (n ∷ ns) other first second = (first.0, both_ended ns other first.1 second)

  -- nothing has ended
  pub all_left : (children : List ℕ) → Leaves may_answer children children
  all_left children = record {
    ended = [];
    have_ended = tt;
    parted = subst (IsPermutation children) (sym (append-nil children)) (IsPermutation-refl children);
  }

  -- one more has ended
  pub left_after : (children left kept : List ℕ) → Leaves may_answer children left
      → Leaves may_answer left kept → Leaves may_answer children kept
  left_after children left kept before now = record {
    ended = now.ended ++ before.ended;
    have_ended = both_ended now.ended before.ended now.have_ended before.have_ended;
    parted = IsPermutation-trans _ _ _ before.parted (subst (IsPermutation (left ++ before.ended)) (append_assoc kept now.ended before.ended)
        (IsPermutation-append_left before.ended left (kept ++ now.ended) now.parted));
  }

  -- one more was started
  one_joined : (children kept : List ℕ) (number : ℕ) → Leaves may_answer children kept
      → Leaves may_answer (children ++ number ∷ []) (kept ++ number ∷ [])
  one_joined children kept number before =
      let last = number ∷ [] in record {
        ended = before.ended;
        have_ended = before.have_ended;
        parted = IsPermutation-trans _ _ _ (IsPermutation-append_left last children (kept ++ before.ended) before.parted)
            (subst (λ l. IsPermutation l ((kept ++ last) ++ before.ended)) (sym (append_assoc kept before.ended last))
            (subst (IsPermutation (kept ++ (before.ended ++ last))) (sym (append_assoc kept last before.ended))
            (IsPermutation-append_right kept (before.ended ++ last) (last ++ before.ended) (IsPermutation-append_comm before.ended last))));
      }

  -- the member at this place has ended, and its place was taken by the last one
  pub one_left : {M : Type 0} (number : M → ℕ) (children : List ℕ) (crew after : List M)
      (place : ℕ) (taken : M) → place < length crew → taken ≡ get_or crew place taken
      → after ≡ swap_remove crew place taken → HasEnded may_answer (number taken)
      → ∥ Leaves may_answer children (map number crew) ∥₁
      → ∥ Leaves may_answer children (map number after) ∥₁
  one_left number children crew after place taken within at is ended leaves = ∥∥₁_map leaves (λ was.
      left_after children (map number crew) (map number after) was (record {
        ended = number taken ∷ [];
        have_ended = (ended, tt);
        parted = rw is (IsPermutation-trans _ _ _
            (IsPermutation-map number crew (taken ∷ swap_remove crew place taken) (IsPermutation-swap_remove crew place taken within at))
            (IsPermutation-append_comm (number taken ∷ []) (map number (swap_remove crew place taken))));
      }))

  fewer_left : (children left : List ℕ) → Leaves may_answer children left
      → length left ≤ length children
  fewer_left children left leaves =
      let same = length_permutation children (left ++ leaves.ended) leaves.parted in
      let parts = length-append left leaves.ended in
      omega (arith, same, parts)

  -- no more than before
  pub few_left : {M : Type 0} (number : M → ℕ) (crew after : List M)
      → ∥ Leaves may_answer (map number crew) (map number after) ∥₁ → length after ≤ length crew
  few_left number crew after leaves = ∥∥₁_elim leaves le_prop (λ left.
      let fewer = fewer_left (map number crew) (map number after) left in
      let one = length-map crew number in
      let other = length-map after number in
      omega (arith, fewer, one, other))

  -- the child that was started, after those that have ended were forgotten
  pub joins_crew : {M C : Type 0} (number : M → ℕ) (number_of : C → ℕ) (limit : ℕ)
      (crew kept same after : List M) (child inner : C)
      → ∥ Leaves may_answer (map number crew) (map number kept) ∥₁ → same ≡ kept
      → length same + 1 ≤ limit → inner ≡ child
      → map number after ≡ map number same ++ number_of child ∷ []
      → ∥ Joins may_answer limit (map number crew) (number_of inner) (map number after) ∥₁
  joins_crew number number_of limit crew kept same after child inner leaves is few joined added = ∥∥₁_map leaves (λ left. record {
    kept = map number kept;
    leaves = left;
    few = let long = length-map kept number in let all = ap length is in omega (arith, few, long, all);
    new_is = rw joined (added ∙ ap (λ l. map number l ++ number_of child ∷ []) is);
  })

  module _ (limit earlier : ℕ) where
    -- a guard that started nothing
    pub no_crew : (own : List EntryView) → own ≡ [] → earlier ≡ 0
        → ∥ IsCrew may_answer limit earlier own [] ∥₁
    no_crew own none nobody = ∣ record {
      before = [];
      counted = sym nobody;
      leaves = rw none (all_left []);
      few = omega arith;
    } ∣₁

    -- some are known to have ended
    pub crew_left : (own : List EntryView) (running kept : List ℕ)
        → ∥ IsCrew may_answer limit earlier own running ∥₁ → ∥ Leaves may_answer running kept ∥₁
        → ∥ IsCrew may_answer limit earlier own kept ∥₁
    crew_left own running kept crew leaves = ∥∥₁_map₂ crew leaves (λ was left. record {
      before = was.before;
      counted = was.counted;
      leaves = left_after (was.before ++ children_in own) running kept was.leaves left;
      few = let fewer = fewer_left running kept left in let few = was.few in omega (arith, fewer, few);
    })

    -- an entry that started no child
    pub crew_same : (own more : List EntryView) (entry : EntryView) (running : List ℕ)
        → ∥ IsCrew may_answer limit earlier own running ∥₁ → child_by entry ≡ []
        → more ≡ own ++ entry ∷ [] → ∥ IsCrew may_answer limit earlier more running ∥₁
    crew_same own more entry running crew none is = ∥∥₁_map crew (λ was. record {
      before = was.before;
      counted = was.counted;
      leaves = subst (λ l. Leaves may_answer (was.before ++ l) running)
          (sym (ap children_in is ∙ children_append own entry ∙ ap (λ l. children_in own ++ l) none ∙ append-nil (children_in own))) was.leaves;
      few = was.few;
    })

    -- an entry that started one
    pub crew_joined : (own more : List EntryView) (entry : EntryView) (running new : List ℕ)
        (number : ℕ) → ∥ IsCrew may_answer limit earlier own running ∥₁
        → ∥ Joins may_answer limit running number new ∥₁ → child_by entry ≡ number ∷ []
        → more ≡ own ++ entry ∷ [] → ∥ IsCrew may_answer limit earlier more new ∥₁
    crew_joined own more entry running new number crew joins one is =
        ∥∥₁_map₂ crew joins (λ was join.
        let all = left_after (was.before ++ children_in own) running join.kept was.leaves join.leaves in
        let children : (was.before ++ children_in own) ++ number ∷ [] ≡ was.before ++ children_in more =
        append_assoc was.before (children_in own) (number ∷ [])
        ∙ ap (λ l. was.before ++ l) (ap (λ l. children_in own ++ l) (sym one) ∙ sym (children_append own entry) ∙ ap children_in (sym is)) in
        record {
          before = was.before;
          counted = was.counted;
          leaves = subst (λ l. Leaves may_answer l new) children
              (subst (Leaves may_answer ((was.before ++ children_in own) ++ number ∷ [])) (sym join.new_is) (one_joined _ join.kept number all));
          few = let few = join.few in let more = length-append join.kept (number ∷ []) in rw join.new_is (omega (arith, few, more));
        })

    -- no more run than are allowed
    pub crew_few : {M : Type 0} (number : M → ℕ) (own : List EntryView) (crew : List M)
        → ∥ IsCrew may_answer limit earlier own (map number crew) ∥₁ → length crew ≤ limit
    crew_few number own members crew = ∥∥₁_elim crew le_prop (λ was.
        let few = was.few in
        let long = length-map members number in
        omega (arith, few, long))

    -- no more run than were started
    pub crew_started : {M : Type 0} (number : M → ℕ) (earlier_held held : Held)
        (own : List EntryView) (crew : List M)
        → ∥ IsCrew may_answer limit earlier own (map number crew) ∥₁
        → earlier ≡ earlier_held.children → held ≡ held_after earlier_held own
        → length crew ≤ held.children
    crew_started number earlier_held held own members crew first counted =
        ∥∥₁_elim crew le_prop (λ was.
        let fewer = fewer_left (was.before ++ children_in own) (map number members) was.leaves in
        let long = length-map members number in
        let parts = length-append was.before (children_in own) in
        let all = ap (λ (h : Held). h.children) counted ∙ held_children earlier_held own in
        let before = was.counted in
        omega (arith, fewer, long, parts, all, before, first))

  -- a journal that was cleared
  pub crew_cleared : (limit : ℕ) (earlier held : Held) (own none : List EntryView)
      (running : List ℕ) → ∥ IsCrew may_answer limit earlier.children own running ∥₁
      → held ≡ held_after earlier own → none ≡ []
      → ∥ IsCrew may_answer limit held.children none running ∥₁
  crew_cleared limit earlier held own none running crew counted is = ∥∥₁_map crew (λ was. record {
    before = was.before ++ children_in own;
    counted =
        length-append was.before (children_in own) ∙ ap (λ n. n + length (children_in own)) was.counted
        ∙ sym (ap (λ (h : Held). h.children) counted ∙ held_children earlier own);
    leaves = rw is (subst (λ l. Leaves may_answer l running) (sym (append-nil (was.before ++ children_in own))) was.leaves);
    few = was.few;
  })

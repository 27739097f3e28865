-- Children that are polled one after another, in a pool and as they are given to it.
use Rattle.std.proofs.Common.{Bool, true, false, if◌then◌else◌, ◌≡◌, ℕ, zero, suc, ◌+◌, ◌<◌, ◌≤◌, List, [], ◌∷◌, ◌++◌, length, refl, ap, sym, ◌∙◌, arith, append_assoc, subst, inl, inr, take, drop, add-one, add-zero, zero-add, map, Some, None, Ok, Err, Option}
use Rattle.std.proofs.lemmas.List.{append-nil, take_all, drop_all}
use Rattle.duct_system.specs.Child.{Answer, ChildView, PollsChild}
use Rattle.duct_base.specs.Pool.{PoolView, in_nodes, counted, PollsAll, Sieves}
use Rattle.duct_system.specs.declared.system.ExitStatus.{ExitStatus}
use Rattle.duct_system.specs.declared.system.Fault.{Fault}

-- some children, polled once each: those that run are left, and nothing else of them has changed
abbrev pub AsksAll : {C : Type 0} → (ℕ → Answer → Type 0) → (C → ChildView) → List C → List C → ℕ → ℕ → Type 0
AsksAll may view =
    Sieves (λ child. may (view child).number) (λ child kept. PollsChild may (view child) (Ok None) (view kept))

-- the pool after its first children were polled: those that run come after the others
abbrev pub Sweeps : {C : Type 0} → (ℕ → Answer → Type 0) → (C → ChildView) → ℕ → PoolView C → PoolView C → Type 0
Sweeps may view many before after = PollsAll may view (take many before.children) (drop many before.children) 0 before after

-- the pool after each of its children was polled
abbrev pub IsSwept : {C : Type 0} → (ℕ → Answer → Type 0) → (C → ChildView) → PoolView C → PoolView C → Type 0
IsSwept may view before after = PollsAll may view before.children [] 0 before after

-- the pool after these children were given to it and polled
abbrev pub Takes : {C : Type 0} → (ℕ → Answer → Type 0) → (C → ChildView) → List C → PoolView C → PoolView C → Type 0
Takes may view taken before after = PollsAll may view taken before.children (length taken) before after

-- two lists of children, one after the other
pub sieves-append : {A B : Type 0} (may : A → Answer → Type 0) (keeps : A → B → Type 0)
    (xs others : List A) (ls more : List B) (r l r' l' : ℕ) →
    Sieves may keeps xs ls r l → Sieves may keeps others more r' l' → Sieves may keeps (xs ++ others) (ls ++ more) (r + r') (l + l')
sieves-append {A} {B} may keeps [] others ls more r l r' l' first second =
    let at_left : Sieves may keeps others (ls ++ more) r' l' = subst (λ (z : List B). Sieves may keeps others (z ++ more) r' l') (sym first.0) second in
    let reaped : r' ≡ r + r' = omega (arith, first.1) in
    let lost : l' ≡ l + l' = omega (arith, first.2) in
    subst (λ (n : ℕ). Sieves may keeps others (ls ++ more) n (l + l')) reaped (subst (λ (n : ℕ). Sieves may keeps others (ls ++ more) r' n) lost at_left)
sieves-append {A} {B} may keeps (x ∷ xs) others ls more r l r' l' (inl s) second =
    inl (s.0, s.1 ++ more, s.2, ap (λ (z : List B). z ++ more) s.3, sieves-append may keeps xs others s.1 more r l r' l' s.4 second)
sieves-append {A} {B} may keeps (x ∷ xs) others ls more r l r' l' (inr (inl s)) second =
    inr (inl (s.0, s.1 + r', s.2, omega (arith, s.3), sieves-append may keeps xs others ls more s.1 l r' l' s.4 second))
sieves-append {A} {B} may keeps (x ∷ xs) others ls more r l r' l' (inr (inr s)) second =
    inr (inr (s.0, s.1 + l', s.2, omega (arith, s.3), sieves-append may keeps xs others ls more r s.1 r' l' s.4 second))

module _ {C : Type 0} (may : ℕ → Answer → Type 0) (view : C → ChildView) (child : C) where
  -- one child that runs, has ended, or returned a fault
  one_kept : (kept : C) → PollsChild may (view child) (Ok None) (view kept)
      → AsksAll may view (child ∷ []) (kept ∷ []) 0 0
  one_kept kept polls = inl (kept, [], polls, refl, (refl, refl, refl))

  one_reaped : (status : ExitStatus) → may (view child).number (Ok (Some status))
      → AsksAll may view (child ∷ []) [] 1 0
  one_reaped status told = inr (inl (status, 0, told, refl, (refl, refl, refl)))

  one_lost : (fault : Fault) → may (view child).number (Err fault)
      → AsksAll may view (child ∷ []) [] 0 1
  one_lost fault told = inr (inr (fault, 0, told, refl, (refl, refl, refl)))

pub counted_more : (a b c : ℕ) → counted (counted a b) c ≡ counted a (b + c)
counted_more a b zero = ap (λ n. counted a n) (sym (add-zero b))
counted_more a zero (suc c) = ap (λ n. counted a n) (sym (zero-add (suc c)))
counted_more a (suc b) (suc c) = omega arith ∙ ap (λ n. counted a n) (sym (suc_plus b (suc c)))
  where
    suc_plus : (b c : ℕ) → suc b + c ≡ suc (b + c)
    suc_plus b c = omega arith

-- one child is given to a pool
module _ {C : Type 0} (may : ℕ → Answer → Type 0) (view : C → ChildView) (before after : PoolView C) (child : C) where
  pub takes_kept : (kept : C) → PollsChild may (view child) (Ok None) (view kept) →
      after ≡ record before { children = before.children ++ kept ∷ []; given = counted before.given 1 } → Takes may view (child ∷ []) before after
  takes_kept kept polls is = record {
    kept = kept ∷ [];
    reaped = 0;
    lost = 0;
    asked = one_kept may view child kept polls;
    children_are = ap (λ (p : PoolView C). p.children) is;
    given_is = ap (λ (p : PoolView C). p.given) is;
    reaped_is = ap (λ (p : PoolView C). p.reaped) is;
    lost_is = ap (λ (p : PoolView C). p.lost) is;
  }

  pub takes_reaped : (status : ExitStatus) → may (view child).number (Ok (Some status)) →
      after ≡ record before { given = counted before.given 1; reaped = counted before.reaped 1 } → Takes may view (child ∷ []) before after
  takes_reaped status told is = record {
    kept = [];
    reaped = 1;
    lost = 0;
    asked = one_reaped may view child status told;
    children_are = ap (λ (p : PoolView C). p.children) is ∙ sym (append-nil before.children);
    given_is = ap (λ (p : PoolView C). p.given) is;
    reaped_is = ap (λ (p : PoolView C). p.reaped) is;
    lost_is = ap (λ (p : PoolView C). p.lost) is;
  }

  pub takes_lost : (fault : Fault) → may (view child).number (Err fault) →
      after ≡ record before { given = counted before.given 1; lost = counted before.lost 1 } → Takes may view (child ∷ []) before after
  takes_lost fault told is = record {
    kept = [];
    reaped = 0;
    lost = 1;
    asked = one_lost may view child fault told;
    children_are = ap (λ (p : PoolView C). p.children) is ∙ sym (append-nil before.children);
    given_is = ap (λ (p : PoolView C). p.given) is;
    reaped_is = ap (λ (p : PoolView C). p.reaped) is;
    lost_is = ap (λ (p : PoolView C). p.lost) is;
  }

in_nodes-append : {C : Type 0} (nodes : List (Option C)) (child : C)
    → in_nodes (nodes ++ Some child ∷ []) ≡ in_nodes nodes ++ child ∷ []
in_nodes-append [] child = refl
in_nodes-append {C} (Some other ∷ nodes) child = ap (λ (l : List C). other ∷ l) (in_nodes-append nodes child)
in_nodes-append (None ∷ nodes) child = in_nodes-append nodes child

-- at most one reservation more, with a child
pub in_nodes_after : {C : Type 0} (old after one : List (Option C)) (child : C) (joined : Bool)
    → one ≡ Some child ∷ [] → after ≡ (if joined then old ++ one else old)
    → (more : List C) × (in_nodes after ≡ in_nodes old ++ more)
in_nodes_after old after one child true one_is is =
    (child ∷ [], ap (λ l. in_nodes l) is ∙ ap (λ l. in_nodes (old ++ l)) one_is ∙ in_nodes-append old child)
in_nodes_after old after one child false one_is is = ([], ap (λ l. in_nodes l) is ∙ sym (append-nil (in_nodes old)))

-- the first child of a pool is polled: the pool is given by its nodes, and the first one is that
-- child's
module _ {C : Type 0} (may : ℕ → Answer → Type 0) (view : C → ChildView) (by_nodes before after : PoolView C) (nodes one rest : List (Option C)) (child : C)
    (same : by_nodes ≡ before) (children : by_nodes.children ≡ in_nodes nodes) (whole : nodes ≡ one ++ rest) (first : one ≡ Some child ∷ []) where
  children_are : before.children ≡ child ∷ in_nodes rest
  children_are = sym (ap (λ (p : PoolView C). p.children) same) ∙ children ∙ ap (λ (l : List (Option C)). in_nodes l) whole ∙ ap (λ (l : List (Option C)). in_nodes (l ++ rest)) first

  asked_first : take 1 before.children ≡ child ∷ []
  asked_first = ap (λ (l : List C). take 1 l) children_are

  behind : (kept : List C) → after.children ≡ in_nodes rest ++ kept
      → after.children ≡ drop 1 before.children ++ kept
  behind kept is = is ∙ ap (λ (l : List C). drop 1 l ++ kept) (sym children_are)

  pub sweeps_kept : (filled : List (Option C)) (kept : C)
      → PollsChild may (view child) (Ok None) (view kept) → filled ≡ Some kept ∷ [] →
      after ≡ record by_nodes { children = in_nodes (rest ++ filled) } → Sweeps may view 1 before after
  sweeps_kept filled kept polls full is = record {
    kept = kept ∷ [];
    reaped = 0;
    lost = 0;
    asked = subst (λ (l : List C). AsksAll may view l (kept ∷ []) 0 0) (sym asked_first) (one_kept may view child kept polls);
    children_are = behind (kept ∷ []) (ap (λ (p : PoolView C). p.children) is ∙ ap (λ (l : List (Option C)). in_nodes (rest ++ l)) full ∙ in_nodes-append rest kept);
    given_is = ap (λ (p : PoolView C). p.given) is ∙ ap (λ (p : PoolView C). p.given) same;
    reaped_is = ap (λ (p : PoolView C). p.reaped) is ∙ ap (λ (p : PoolView C). p.reaped) same;
    lost_is = ap (λ (p : PoolView C). p.lost) is ∙ ap (λ (p : PoolView C). p.lost) same;
  }

  pub sweeps_reaped : (status : ExitStatus) → may (view child).number (Ok (Some status)) →
      after ≡ record by_nodes { children = in_nodes rest; reaped = counted by_nodes.reaped 1 } → Sweeps may view 1 before after
  sweeps_reaped status told is = record {
    kept = [];
    reaped = 1;
    lost = 0;
    asked = subst (λ (l : List C). AsksAll may view l [] 1 0) (sym asked_first) (one_reaped may view child status told);
    children_are = behind [] (ap (λ (p : PoolView C). p.children) is ∙ sym (append-nil (in_nodes rest)));
    given_is = ap (λ (p : PoolView C). p.given) is ∙ ap (λ (p : PoolView C). p.given) same;
    reaped_is = ap (λ (p : PoolView C). p.reaped) is ∙ ap (λ (p : PoolView C). counted p.reaped 1) same;
    lost_is = ap (λ (p : PoolView C). p.lost) is ∙ ap (λ (p : PoolView C). p.lost) same;
  }

  pub sweeps_lost : (fault : Fault) → may (view child).number (Err fault) →
      after ≡ record by_nodes { children = in_nodes rest; lost = counted by_nodes.lost 1 } → Sweeps may view 1 before after
  sweeps_lost fault told is = record {
    kept = [];
    reaped = 0;
    lost = 1;
    asked = subst (λ (l : List C). AsksAll may view l [] 0 1) (sym asked_first) (one_lost may view child fault told);
    children_are = behind [] (ap (λ (p : PoolView C). p.children) is ∙ sym (append-nil (in_nodes rest)));
    given_is = ap (λ (p : PoolView C). p.given) is ∙ ap (λ (p : PoolView C). p.given) same;
    reaped_is = ap (λ (p : PoolView C). p.reaped) is ∙ ap (λ (p : PoolView C). p.reaped) same;
    lost_is = ap (λ (p : PoolView C). p.lost) is ∙ ap (λ (p : PoolView C). counted p.lost 1) same;
  }

-- a sweep, from its beginning to its end, one child at a time
next_of : {C : Type 0} (xs : List C) (i : ℕ) → i < length xs
    → (x : C) × (drop i xs ≡ x ∷ drop (suc i) xs) × (take (suc i) xs ≡ take i xs ++ x ∷ [])
next_of [] i within = absurd (omega arith)
next_of (x ∷ xs) zero within = (x, refl, refl)
next_of {C} (x ∷ xs) (suc i) within =
    let less : i < length xs = omega arith in
    let n = next_of xs i less in
    (n.0, n.1, ap (λ (l : List C). x ∷ l) n.2)

pub sweep_begins : {C : Type 0} (may : ℕ → Answer → Type 0) (view : C → ChildView)
    (before : PoolView C) → Sweeps may view 0 before before
sweep_begins may view before = record {
  kept = [];
  reaped = 0;
  lost = 0;
  asked = (refl, refl, refl);
  children_are = sym (append-nil before.children);
  given_is = refl;
  reaped_is = refl;
  lost_is = refl;
}

module _ {C : Type 0} (may : ℕ → Answer → Type 0) (view : C → ChildView) (i : ℕ) (before now : PoolView C) (s : Sweeps may view i before now) (within : i < length before.children) where
  now_is : now.children ≡ (next_of before.children i within).0 ∷
      (drop (suc i) before.children ++ s.kept)
  now_is = s.children_are ∙ ap (λ (l : List C). l ++ s.kept) (next_of before.children i within).1

  pub some_left : 0 < length now.children
  some_left = omega (arith, ap (λ (l : List C). length l) now_is)

  pub sweep_goes_on : (next : PoolView C) → Sweeps may view 1 now next
      → Sweeps may view (i + 1) before next
  sweep_goes_on next one =
      let n = next_of before.children i within in
      let first : take 1 now.children ≡ n.0 ∷ [] = ap (λ (l : List C). take 1 l) now_is in
      let rest : drop 1 now.children ≡ drop (suc i) before.children ++ s.kept = ap (λ (l : List C). drop 1 l) now_is in
      let taken : take (i + 1) before.children ≡ take i before.children ++ n.0 ∷ [] = ap (λ (k : ℕ). take k before.children) (add-one i) ∙ n.2 in
      let dropped : drop (i + 1) before.children ≡ drop (suc i) before.children = ap (λ (k : ℕ). drop k before.children) (add-one i) in
      record {
        kept = s.kept ++ one.kept;
        reaped = s.reaped + one.reaped;
        lost = s.lost + one.lost;
        asked = subst (λ (l : List C). AsksAll may view l (s.kept ++ one.kept) (s.reaped + one.reaped) (s.lost + one.lost)) (sym taken)
            (sieves-append (λ child. may (view child).number) (λ child kept. PollsChild may (view child) (Ok None) (view kept))
            (take i before.children) (n.0 ∷ []) s.kept one.kept s.reaped s.lost one.reaped one.lost
            s.asked (subst (λ (l : List C). AsksAll may view l one.kept one.reaped one.lost) first one.asked));
        children_are = one.children_are ∙ ap (λ (l : List C). l ++ one.kept) rest ∙ append_assoc (drop (suc i) before.children) s.kept one.kept
            ∙ ap (λ (l : List C). l ++ (s.kept ++ one.kept)) (sym dropped);
        given_is = one.given_is ∙ s.given_is;
        reaped_is = one.reaped_is ∙ ap (λ (n : ℕ). counted n one.reaped) s.reaped_is ∙ counted_more before.reaped s.reaped one.reaped;
        lost_is = one.lost_is ∙ ap (λ (n : ℕ). counted n one.lost) s.lost_is ∙ counted_more before.lost s.lost one.lost;
      }

pub sweep_ends : {C : Type 0} (may : ℕ → Answer → Type 0) (view : C → ChildView) (i : ℕ)
    (before now : PoolView C) →
    Sweeps may view i before now → length before.children ≤ i → IsSwept may view before now
sweep_ends {C} may view i before now s done = record {
  kept = s.kept;
  reaped = s.reaped;
  lost = s.lost;
  asked = subst (λ (l : List C). AsksAll may view l s.kept s.reaped s.lost) (take_all i before.children done) s.asked;
  children_are = s.children_are ∙ ap (λ (l : List C). l ++ s.kept) (drop_all i before.children done);
  given_is = s.given_is;
  reaped_is = s.reaped_is;
  lost_is = s.lost_is;
}

pub one_node : {C : Type 0} (nodes one rest : List (Option C)) → nodes ≡ map Some (in_nodes nodes)
    → nodes ≡ one ++ rest → length one ≡ 1 →
    (child : C) × (one ≡ Some child ∷ [])
one_node nodes [] rest full whole long = absurd (omega (arith, long))
one_node nodes (Some child ∷ []) rest full whole long = (child, refl)
one_node {C} nodes (None ∷ []) rest full whole long = no_none (in_nodes nodes) rest (sym whole ∙ full)
  where
    no_none : (xs : List C) (rest : List (Option C)) → None ∷ rest ≡ map Some xs
        → (child : C) × (None ∷ [] ≡ Some child ∷ [])
    no_none [] rest is = absurd (cc)
    no_none (x ∷ xs) rest is = absurd (cc)
one_node nodes (o ∷ p ∷ one) rest full whole long = absurd (omega (arith, long))

-- at most as many children are left as were polled
pub sieves_fewer : {A B : Type 0} (may : A → Answer → Type 0) (keeps : A → B → Type 0)
    (children : List A) (left : List B) (r l : ℕ) → Sieves may keeps children left r l
    → length left ≤ length children
sieves_fewer {A} {B} may keeps [] left r l none = omega (arith, ap (λ (z : List B). length z) none.0)
sieves_fewer {A} {B} may keeps (child ∷ children) left r l (inl s) =
    omega (arith, ap (λ (z : List B). length z) s.3, sieves_fewer may keeps children s.1 r l s.4)
sieves_fewer {A} {B} may keeps (child ∷ children) left r l (inr (inl s)) = omega (arith, sieves_fewer may keeps children left s.1 l s.4)
sieves_fewer {A} {B} may keeps (child ∷ children) left r l (inr (inr s)) = omega (arith, sieves_fewer may keeps children left r s.1 s.4)

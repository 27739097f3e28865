-- Numbers of ends that come from their targets, pair by pair.
use Rattle.std.proofs.Common.{◌≡◌, ℕ, ◌+◌, zero, suc, List, [], ◌∷◌, ◌++◌, length, ◌∙◌, arith, subst, sym, refl, inl, inr, ◌⊎◌, None, Ok, Some, drop, reverse, slice_get, unwrap_or, Option}
use Rattle.duct_run.proofs.Common.{append-nil, reverse-append, EntryView, Spawn, Duplicate, Origin, Opened, origin, Stdio, at_depth, Allows, AnswersBy, AnswersFrom, AnswersFromBy, StreamsRelation, GivesExactly, Target, Parents, Nothing, ReaderAt, WriterAt, FileAt, Lends, ComesFrom, IsDuplicate, IsDuplicateBefore, IsGivenFrom, Pairwise, AnswersUnder, RunContext, GivesUnder, HasOrigin, IsEarly, IsFrom, Item, AskSpawn}
use Rattle.duct_system.specs.declared.spec.Stream.TheVariants as stream

module _ {A B : Type 0} (R : A → B → Type 0) where
  pub pair_append : (xs ys : List A) (us vs : List B) → Pairwise R xs us → Pairwise R ys vs
      → Pairwise R (xs ++ ys) (us ++ vs)
  pair_append [] ys [] vs first second = second
  pair_append [] ys (u ∷ us) vs first second = absurd first
  pair_append (x ∷ xs) ys [] vs first second = absurd first
  pair_append (x ∷ xs) ys (u ∷ us) vs first second = (first.0, pair_append xs ys us vs first.1 second)

  pub pair_first : (xs ys : List A) (us vs : List B) → length xs ≡ length us
      → Pairwise R (xs ++ ys) (us ++ vs) → Pairwise R xs us
  pair_first [] ys [] vs same pairs = tt
  pair_first [] ys (u ∷ us) vs same pairs = absurd (omega (arith, same))
  pair_first (x ∷ xs) ys [] vs same pairs = absurd (omega (arith, same))
  pair_first (x ∷ xs) ys (u ∷ us) vs same pairs =
      let rest : length xs ≡ length us = omega (arith, same) in (pairs.0, pair_first xs ys us vs rest pairs.1)

  pub pair_second : (xs ys : List A) (us vs : List B) → length xs ≡ length us
      → Pairwise R (xs ++ ys) (us ++ vs) → Pairwise R ys vs
  pair_second [] ys [] vs same pairs = pairs
  pair_second [] ys (u ∷ us) vs same pairs = absurd (omega (arith, same))
  pair_second (x ∷ xs) ys [] vs same pairs = absurd (omega (arith, same))
  pair_second (x ∷ xs) ys (u ∷ us) vs same pairs = let rest : length xs ≡ length us = omega (arith, same) in pair_second xs ys us vs rest pairs.1

  -- the same parts are swapped on both sides
  pub pair_swapped : (a b c : List A) (x y z : List B) → length a ≡ length x → length b ≡ length y
      → Pairwise R (a ++ (b ++ c)) (x ++ (y ++ z)) → Pairwise R (b ++ (a ++ c)) (y ++ (x ++ z))
  pair_swapped a b c x y z one other pairs =
      let rest = pair_second a (b ++ c) x (y ++ z) one pairs in
      pair_append b (a ++ c) y (x ++ z) (pair_first b c y z other rest) (pair_append a c x z (pair_first a (b ++ c) x (y ++ z) one pairs) (pair_second b c y z other rest))

  -- the top is popped on both sides
  pub pair_popped : (n : A) (rest : List A) (stack : List B) → Pairwise R (n ∷ rest) stack
      → Pairwise R rest (drop 1 stack)
  pair_popped n rest [] pairs = absurd pairs
  pair_popped n rest (x ∷ stack) pairs = pairs.1

  pair_reversed : (xs : List A) (us : List B) → Pairwise R xs us
      → Pairwise R (reverse xs) (reverse us)
  pair_reversed [] [] pairs = tt
  pair_reversed [] (u ∷ us) pairs = absurd pairs
  pair_reversed (x ∷ xs) [] pairs = absurd pairs
  pair_reversed (x ∷ xs) (u ∷ us) pairs =
      let all : Pairwise R (reverse xs ++ x ∷ []) (reverse us ++ u ∷ []) = pair_append (reverse xs) (x ∷ []) (reverse us) (u ∷ []) (pair_reversed xs us pairs.1) (pairs.0, tt) in
      subst (λ (l : List A). Pairwise R l (reverse (u ∷ us))) (sym (reverse-append (x ∷ []) xs))
      (subst (λ (l : List B). Pairwise R (reverse xs ++ x ∷ []) l) (sym (reverse-append (u ∷ []) us)) all)

  pair_get : (xs : List A) (us : List B) (n : ℕ) (x : A) (other : B) → Pairwise R xs us
      → slice_get xs n ≡ Some x → R x (unwrap_or (slice_get us n) other)
  pair_get [] us n x other pairs is = cc
  pair_get (y ∷ xs) [] n x other pairs is = absurd pairs
  pair_get (y ∷ xs) (u ∷ us) zero x other pairs is = let same : y ≡ x = cc in subst (λ (k : A). R k u) same pairs.0
  pair_get (y ∷ xs) (u ∷ us) (suc n) x other pairs is = pair_get xs us n x other pairs.1 is

  -- the elements at a depth are related
  pub pair_level : (xs : List A) (us : List B) (depth : ℕ) (x : A) (other : B) → Pairwise R xs us
      → at_depth xs depth ≡ Some x → R x (unwrap_or (at_depth us depth) other)
  pair_level xs us depth x other pairs is = pair_get (reverse xs) (reverse us) depth x other (pair_reversed xs us pairs) is

-- what holds in any case also holds under a premise
pub surely : {A : Type 0} (early : Type 0) → A → A × (early → A)
surely early holds = (holds, λ e. holds)

-- an end that has an origin comes from it
pub known : (early : Type 0) (L : List EntryView) (n : ℕ) (o : Option Origin)
    → HasOrigin early L n o
    → ComesFrom L n (unwrap_or o (Opened 0)) × (early → origin L n ≡ unwrap_or o (Opened 0))
known early L n None is = absurd is
known early L n (Some source) is = is

later_duplicate : (entry : EntryView) (entries : List EntryView) (lent number : ℕ)
    → IsDuplicateBefore entries lent number → IsDuplicateBefore (entry ∷ entries) lent number
later_duplicate (Duplicate other (Ok end)) entries lent number is = inr is
later_duplicate entry entries lent number is = is

later_duplicates : (late entries : List EntryView) (lent number : ℕ)
    → IsDuplicateBefore entries lent number → IsDuplicateBefore (late ++ entries) lent number
later_duplicates [] entries lent number is = is
later_duplicates (entry ∷ late) entries lent number is = later_duplicate entry (late ++ entries) lent number (later_duplicates late entries lent number is)

-- a duplicate stays one, whatever entries come later
duplicate_stays : (xs more : List EntryView) (lent number : ℕ) → IsDuplicate xs lent number
    → IsDuplicate (xs ++ more) lent number
duplicate_stays xs more lent number is =
    subst (λ (l : List EntryView). IsDuplicateBefore l lent number) (sym (reverse-append xs more)) (later_duplicates (reverse more) (reverse xs) lent number is)

-- the duplicate that was requested last
duplicate_now : (xs more : List EntryView) (other lent number : ℕ)
    → (other ≡ lent) ⊎ IsDuplicate xs lent other
    → IsDuplicate ((xs ++ Duplicate other (Ok number) ∷ []) ++ more) lent number
duplicate_now xs more other lent number from =
    duplicate_stays (xs ++ Duplicate other (Ok number) ∷ []) more lent number
    (subst (λ (l : List EntryView). IsDuplicateBefore l lent number) (sym (reverse-append xs (Duplicate other (Ok number) ∷ []))) (inl (refl, from)))

pub duplicate_first : (xs more : List EntryView) (lent number : ℕ)
    → IsDuplicate ((xs ++ Duplicate lent (Ok number) ∷ []) ++ more) lent number
duplicate_first xs more lent number = duplicate_now xs more lent lent number (inl refl)

-- a duplicate of an end comes from where that end comes from
pub duplicated : {E : Type 0} (early : Type 0) (number_of : E → ℕ) (added more : List EntryView)
    (m n : ℕ) (t : Target E) → let L = (added ++ Duplicate m (Ok n) ∷ []) ++ more in
    origin L n ≡ origin L m → IsFrom early number_of (added ++ []) m t → IsFrom early number_of L m t → IsFrom early number_of L n t
duplicated early number_of added more m n (Parents stream.In) same before is = is
duplicated early number_of added more m n (Parents stream.Out) same before is = (same ∙ is.0, λ e. same ∙ is.1 e)
duplicated early number_of added more m n (Parents stream.Err) same before is = (same ∙ is.0, λ e. same ∙ is.1 e)
duplicated early number_of added more m n Nothing same before is = is
duplicated early number_of added more m n (ReaderAt place) same before is = (same ∙ is.0, λ e. same ∙ is.1 e)
duplicated early number_of added more m n (WriterAt place) same before is = (same ∙ is.0, λ e. same ∙ is.1 e)
duplicated early number_of added more m n (FileAt place) same before is = (same ∙ is.0, λ e. same ∙ is.1 e)
duplicated early number_of added more m n (Lends end) same before is =
    let earlier = subst (λ (l : List EntryView). IsDuplicate l (number_of end) m) (append-nil added) before.0 in
    (duplicate_now added more m (number_of end) n (inr earlier), λ e. same ∙ is.1 e)

module _ {E H : Type 0} (one other : StreamsRelation) (allows : Allows H) (number_of : E → ℕ) (L : List EntryView) (follows : (io : List (Stdio ℕ)) (wanted : List (Stdio Origin)) → one io wanted → other io wanted) where
  answer_as : (place : ℕ) (item : Item E H) (entry : EntryView)
      → AnswersBy one allows number_of L place item entry
      → AnswersBy other allows number_of L place item entry
  answer_as place (AskSpawn found words) (Spawn spec io answer) is = (is.0, is.1, is.2, is.3, is.4, follows io _ is.5)
  answer_as place item entry is = is

  -- the relation that holds for the streams may be weakened
  pub answers_as : (place : ℕ) (items : List (Item E H)) (entries : List EntryView)
      → AnswersFromBy one allows number_of L place items entries
      → AnswersFromBy other allows number_of L place items entries
  answers_as place items [] all = tt
  answers_as place [] (entry ∷ entries) all = absurd all
  answers_as place (item ∷ items) (entry ∷ entries) all = (answer_as place item entry all.0, answers_as (place + 1) items entries all.1)

module _ {E H : Type 0} (context : RunContext) (allows : Allows H) (number_of : E → ℕ) (L : List EntryView) (items : List (Item E H)) (entries : List EntryView) where
  -- entries that match some items make their requests
  pub plan_asked : AnswersUnder context allows number_of L 0 items entries
      → AnswersFromBy (λ io wanted. Pairwise (IsGivenFrom L) io wanted) allows number_of L 0 items
      entries
  plan_asked all =
      answers_as (GivesUnder (IsEarly context) L) (λ io wanted. Pairwise (IsGivenFrom L) io wanted) allows number_of L (λ io wanted is. is.0) 0 items entries all

  -- if the caller's ends came from before the run, the streams have exactly these origins
  pub exactly_answered : IsEarly context → AnswersUnder context allows number_of L 0 items entries
      → AnswersFrom allows number_of L 0 items entries
  exactly_answered early all =
      answers_as (GivesUnder (IsEarly context) L) (GivesExactly L) allows number_of L (λ io wanted is. is.1 early) 0 items entries all

-- One poll of a child, and what it changes.
use Rattle.duct_running.proofs.Common.{MatchOption, Answer, ChildView, PollsChild, ending_after, JobView, from_command, Latest, is_due, is_word_due, word_after, change_at, latest_after, Word, ExitStatus, AskedIfDue, ChangedAt, Bytes, answer_word, stored_word, stored_latest}
use Rattle.std.specs.Prelude.{ℕ, zero, suc, true, false, List, [], ◌∷◌, map, length, get_or, set, slice_get, Ok, Err, Some, None}
use Rattle.std.proofs.Common.{◌≡◌, ◌<◌, refl, ap, sym, ◌∙◌, subst, arith, Option}

-- the word that a child stores
abbrev pub said : ChildView → Word
said child = stored_word child.ending child.last

-- a child whose word is not an ending has no ending
pub no_ending : (ending : Option ExitStatus) (last : Option Answer)
    → is_word_due (Some (stored_word ending last)) ≡ true → ending ≡ None
no_ending (Some status) last due = absurd (cc)
no_ending None last due = refl

-- a child whose word is an ending has that ending, and is not polled
pub left_alone : (ending : Option ExitStatus) (last : Option Answer) (P Q : Type 0)
    → is_word_due (Some (stored_word ending last)) ≡ false → Q → MatchOption ending P (λ status. Q)
left_alone (Some status) last P Q over q = q
left_alone None (Some (Err fault)) P Q over q = absurd (cc)
left_alone None (Some (Ok found)) P Q over q = absurd (cc)
left_alone None None P Q over q = absurd (cc)

-- the word that a child without an ending stores after a poll is the word of the poll's result
word_heard : (answer : Answer) → stored_word (ending_after None answer) (Some answer)
    ≡ answer_word answer
word_heard (Ok (Some status)) = refl
word_heard (Ok None) = refl
word_heard (Err fault) = refl

word_replaced : (last : Option Answer) (heard : Word)
    → word_after (stored_word None last) heard ≡ heard
word_replaced (Some (Err fault)) heard = refl
word_replaced (Some (Ok found)) heard = refl
word_replaced None heard = refl

asked_once : (before after : ChildView) (may : ℕ → Answer → Type 0) (answer : Answer)
    → PollsChild may before answer after → before.ending ≡ None → AskedIfDue may before after
asked_once before after may answer polls none =
    subst (λ ending. MatchOption ending ((answer : Answer) × PollsChild may before answer after) (λ status. after ≡ before)) (sym none) (answer, polls)

word_changed : (before after : ChildView) (may : ℕ → Answer → Type 0) (answer : Answer)
    → PollsChild may before answer after → before.ending ≡ None
    → word_after (said before) (answer_word answer) ≡ said after
word_changed before after may answer polls none =
    ap (λ e. word_after (stored_word e before.last) (answer_word answer)) none ∙ word_replaced before.last (answer_word answer) ∙ sym (word_heard answer)
    ∙ sym (ap (λ (c : ChildView). said c) polls.after_is ∙ ap (λ e. stored_word (ending_after e answer) (Some answer)) none)

module _ {C : Type 0} (view : C → ChildView) where
  abbrev pub words : List C → List Word
  words children = map said (map view children)

  pub within : (items children : List C) (at : ℕ) → items ≡ children → at < length children
      → at < length items
  within items children at same low = subst (λ (cs : List C). at < length cs) (sym same) low

  -- the parts of the children stay, where a child is replaced by one with the same part
  pub same_at : {X : Type 0} (part : ChildView → X) (children : List C) (at : ℕ) (before after : C)
      → at < length children → before ≡ get_or children at before →
      part (view after) ≡ part (view before) → map part (map view (set children at after)) ≡ map part (map view children)
  same_at part [] at before after low is same = absurd (omega arith)
  same_at part (child ∷ children) zero before after low is same = ap (λ w. w ∷ map part (map view children)) (same ∙ ap (λ c. part (view c)) is)
  same_at part (child ∷ children) (suc at) before after low is same = ap (λ ws. part (view child) ∷ ws) (same_at part children at before after (omega arith) is same)

  -- the ids stay those of the children, where a child is replaced by one with the same id
  pub named_in : (items children : List C) (at : ℕ) (before after : C) (ids : List ℕ)
      → items ≡ children → at < length children → before ≡ get_or items at before →
      (view after).process ≡ (view before).process → ids ≡ map (λ c. c.process) (map view items) → ids ≡ map (λ c. c.process) (map view (set items at after))
  named_in items children at before after ids same low is kept named = named ∙ sym (same_at (λ c. c.process) items at before after (within items children at same low) is kept)

  -- the child at a place is one
  pub same_child : (children : List C) (at : ℕ) (one other : C) → at < length children
      → one ≡ get_or children at one → other ≡ get_or children at other → one ≡ other
  same_child [] at one other low is also = absurd (omega arith)
  same_child (child ∷ children) zero one other low is also = is ∙ sym also
  same_child (child ∷ children) (suc at) one other low is also =
      same_child children at one other (omega arith) is also

  -- the word of the child at a place
  pub said_at : (children : List C) (at : ℕ) (child : C) → at < length children
      → child ≡ get_or children at child → slice_get (words children) at ≡ Some (said (view child))
  said_at [] at child low is = absurd (omega arith)
  said_at (first ∷ children) zero child low is = ap (λ (c : C). Some (said (view c))) (sym is)
  said_at (first ∷ children) (suc at) child low is = said_at children at child (omega arith) is

  module _ (changes : ChildView → ChildView → Type 0) where
    -- a child is replaced by one to which it may change
    pub set_at : (children : List C) (at : ℕ) (before after : C) → at < length children
        → before ≡ get_or children at before → changes (view before) (view after)
        → ChangedAt changes at (map view children) (map view (set children at after))
    set_at [] at before after low is change = absurd (omega arith)
    set_at (child ∷ children) zero before after low is change =
        (subst (λ (c : C). changes (view c) (view after)) is change, refl)
    set_at (child ∷ children) (suc at) before after low is change =
        (refl, set_at children at before after (omega arith) is change)

    -- a child stays as it is
    pub kept_at : (children : List C) (at : ℕ) (child : C) → at < length children
        → child ≡ get_or children at child → changes (view child) (view child)
        → ChangedAt changes at (map view children) (map view children)
    kept_at [] at child low is change = absurd (omega arith)
    kept_at (first ∷ children) zero child low is change =
        (subst (λ (c : C). changes (view c) (view c)) is change, refl)
    kept_at (first ∷ children) (suc at) child low is change =
        (refl, kept_at children at child (omega arith) is change)

    -- a child that has ended is left as it is
    pub left_at : ((child : ChildView) → is_word_due (Some (said child)) ≡ false → changes child child) → (children : List C) (at : ℕ) → at < length children →
        is_word_due (slice_get (words children) at) ≡ false → ChangedAt changes at (map view children) (map view children)
    left_at left [] at low over = absurd (omega arith)
    left_at left (child ∷ children) zero low over = (left (view child) over, refl)
    left_at left (child ∷ children) (suc at) low over = (refl, left_at left children at (omega arith) over)

    -- a child that has not ended is changed
    pub changed_at : (children : List C) (at : ℕ) (before after : C) → at < length children
        → before ≡ get_or children at before → is_word_due (slice_get (words children) at) ≡ true →
        (is_word_due (Some (said (view before))) ≡ true → changes (view before) (view after)) → ChangedAt changes at (map view children) (map view (set children at after))
    changed_at [] at before after low is due change = absurd (omega arith)
    changed_at (child ∷ children) zero before after low is due change =
        let change' = subst (λ c. is_word_due (Some (said (view c))) ≡ true → changes (view c) (view after)) is change in (change' due, refl)
    changed_at (child ∷ children) (suc at) before after low is due change = (refl, changed_at children at before after (omega arith) is due change)

module _ {C : Type 0} (view : C → ChildView) (may : ℕ → Answer → Type 0) where
  not_asked : (children : List C) (at : ℕ) → at < length children
      → is_word_due (slice_get (words view children) at) ≡ false
      → ChangedAt (AskedIfDue may) at (map view children) (map view children)
  not_asked = left_at view (AskedIfDue may) (λ child over. left_alone child.ending child.last _ _ over refl)

  asked : (children : List C) (at : ℕ) (before after : C) (answer : Answer) → at < length children
      → before ≡ get_or children at before →
      PollsChild may (view before) answer (view after) → is_word_due (slice_get (words view children) at) ≡ true → ChangedAt (AskedIfDue may) at (map view children) (map view (set children at after))
  asked children at before after answer low is polls due =
      changed_at view (AskedIfDue may) children at before after low is due
      (λ alive. asked_once (view before) (view after) may answer polls (no_ending (view before).ending (view before).last alive))

  words_changed : (children : List C) (at : ℕ) (before after : C) (answer : Answer)
      → at < length children → before ≡ get_or children at before →
      PollsChild may (view before) answer (view after) → is_word_due (slice_get (words view children) at) ≡ true →
      change_at (λ old. word_after old (answer_word answer)) at (words view children) ≡ words view (set children at after)
  words_changed [] at before after answer low is polls due = absurd (omega arith)
  words_changed (child ∷ children) zero before after answer low is polls due =
      let polls' = subst (λ c. PollsChild may (view c) answer (view after)) is polls in
      ap (λ w. w ∷ words view children) (word_changed (view child) (view after) may answer polls' (no_ending (view child).ending (view child).last due))
  words_changed (child ∷ children) (suc at) before after answer low is polls due = ap (λ ws. said (view child) ∷ ws) (words_changed children at before after answer (omega arith) is polls due)

  -- the same, by the words that a core keeps of the children, with these workers
  module _ (feeds : List (JobView (Unit {0}))) (output error : Option (JobView Bytes)) where
    abbrev stored : List C → Latest
    stored items = stored_latest (map view items) feeds output error

    pub not_asked_in : (items children : List C) (at : ℕ) (kept : Latest) → items ≡ children
        → kept ≡ stored items → at < length children → is_due kept at ≡ false →
        ChangedAt (AskedIfDue may) at (map view children) (map view children)
    not_asked_in items children at kept same is low over =
        not_asked children at low (ap (λ cs. is_word_due (slice_get (words view cs) at)) (sym same) ∙ ap (λ (w : Latest). is_due w at) (sym is) ∙ over)

    due_in : (items : List C) (at : ℕ) (kept : Latest) → kept ≡ stored items
        → is_due kept at ≡ true → is_word_due (slice_get (words view items) at) ≡ true
    due_in items at kept is due = ap (λ (w : Latest). is_due w at) (sym is) ∙ due

    pub asked_in : (items children : List C) (at : ℕ) (before after : C) (answer : Answer)
        (kept : Latest) → items ≡ children → kept ≡ stored items
        → at < length children →
        is_due kept at ≡ true → before ≡ get_or items at before → PollsChild may (view before) answer (view after) → ChangedAt (AskedIfDue may) at (map view children) (map view (set items at after))
    asked_in items children at before after answer kept same is low due found polls =
        subst (λ (cs : List C). ChangedAt (AskedIfDue may) at (map view cs) (map view (set items at after))) same
        (asked items at before after answer (within view items children at same low) found polls (due_in items at kept is due))

    -- a core that was given the child's result keeps the words that are stored
    pub words_in_step : (items children : List C) (at : ℕ) (before after : C) (answer : Answer)
        (kept later : Latest) (heard : Word) → items ≡ children
        → kept ≡ stored items → at < length children →
        is_due kept at ≡ true → before ≡ get_or items at before → PollsChild may (view before) answer (view after) → heard ≡ answer_word answer → later ≡ latest_after kept (from_command at heard) →
        later ≡ stored (set items at after)
    words_in_step items children at before after answer kept later heard same is low due found polls hears told =
        told ∙ ap (λ (h : Word). latest_after kept (from_command at h)) hears ∙ ap (λ (w : Latest). latest_after w (from_command at (answer_word answer))) is
        ∙ ap (λ (ws : List Word). record (stored items) { commands = ws }) (words_changed items at before after answer (within view items children at same low) found polls (due_in items at kept is due))

-- One poll of a worker, and what it changes.
use Rattle.std.proofs.Common.{◌≡◌, ◌<◌, refl, ap, sym, ◌∙◌, subst, arith, ℕ, zero, suc, Bool, true, false, List, [], ◌∷◌, map, length, get_or, set, slice_get, Some, Option}
use Rattle.duct_running.proofs.Common.{ChildView, JobView, PollsJob, kept_after, Said, from_input, Latest, is_input_due, is_said_due, change_at, latest_after, awaited, shape_view, RunningView, SystemViews, WhileRuns, PolledIfRuns, IsPolled, ChangedAt, StreamPolled, is_awaited, Bytes, stored_in, stored_latest}
use Rattle.duct_system.specs.declared.system.Said.TheVariants as said
use Rattle.duct_system.specs.declared.system.Side.{Side}
use Rattle.duct_system.specs.declared.system.Side.TheVariants as side
use Rattle.duct_status.specs.PerSide.{at_side, with_side}
use Rattle.duct_status.specs.declared.per_side.PerSide.{PerSide}
use Rattle.duct_status.specs.declared.status.Shape.{Shape}

-- a worker whose word is Running is polled
polled_while_runs : (kept : Said (Unit {0})) (P Q : Type 0) → is_said_due (Some kept) ≡ true → P
    → WhileRuns kept P Q
polled_while_runs said.Running P Q due p = p
polled_while_runs (said.Done value) P Q due p = absurd (cc)
polled_while_runs (said.Fault fault) P Q due p = absurd (cc)

-- a worker that has finished is not polled
left_when_over : (kept : Said (Unit {0})) (P Q : Type 0) → is_said_due (Some kept) ≡ false → Q
    → WhileRuns kept P Q
left_when_over said.Running P Q over q = absurd (cc)
left_when_over (said.Done value) P Q over q = q
left_when_over (said.Fault fault) P Q over q = q

module _ {F : Type 0} (view : F → JobView (Unit {0})) (may : ℕ → Said (Unit {0}) → Type 0) (same : Unit {0} → Unit {0} → Type 0) (refusable : Type 0) where
  abbrev words : List F → List (Said (Unit {0}))
  words feeds = map (λ feed. feed.kept) (map view feeds)

  abbrev Polls : F → Said (Unit {0}) → F → Type 0
  Polls before heard after = PollsJob may same refusable (view before) heard (view after)

  not_asked : (feeds : List F) (at : ℕ) → at < length feeds
      → is_said_due (slice_get (words feeds) at) ≡ false →
      ChangedAt (PolledIfRuns may same refusable) at (map view feeds) (map view feeds)
  not_asked [] at low over = absurd (omega arith)
  not_asked (feed ∷ feeds) zero low over = (left_when_over (view feed).kept _ _ over refl, refl)
  not_asked (feed ∷ feeds) (suc at) low over = (refl, not_asked feeds at (omega arith) over)

  asked : (feeds : List F) (at : ℕ) (before after : F) (heard : Said (Unit {0}))
      → at < length feeds → before ≡ get_or feeds at before →
      Polls before heard after → is_said_due (slice_get (words feeds) at) ≡ true → ChangedAt (PolledIfRuns may same refusable) at (map view feeds) (map view (set feeds at after))
  asked [] at before after heard low is polls due = absurd (omega arith)
  asked (feed ∷ feeds) zero before after heard low is polls due =
      (polled_while_runs (view feed).kept _ _ due (heard, subst (λ f. Polls f heard after) is polls), refl)
  asked (feed ∷ feeds) (suc at) before after heard low is polls due = (refl, asked feeds at before after heard (omega arith) is polls due)

  words_changed : (feeds : List F) (at : ℕ) (before after : F) (heard : Said (Unit {0}))
      → at < length feeds → before ≡ get_or feeds at before →
      Polls before heard after → change_at (λ old. kept_after old heard) at (words feeds) ≡ words (set feeds at after)
  words_changed [] at before after heard low is polls = absurd (omega arith)
  words_changed (feed ∷ feeds) zero before after heard low is polls =
      let polls' = subst (λ f. Polls f heard after) is polls in
      ap (λ (j : JobView (Unit {0})). j.kept ∷ words feeds) (sym polls'.after_is)
  words_changed (feed ∷ feeds) (suc at) before after heard low is polls = ap (λ ws. (view feed).kept ∷ ws) (words_changed feeds at before after heard (omega arith) is polls)

  within : (items feeds : List F) (at : ℕ) → items ≡ feeds → at < length feeds → at < length items
  within items feeds at same low = subst (λ (fs : List F). at < length fs) (sym same) low

  -- the same, by the words that a core keeps of the input workers, with these children and capture
  -- workers
  module _ (children : List ChildView) (output error : Option (JobView Bytes)) where
    abbrev stored : List F → Latest
    stored items = stored_latest children (map view items) output error

    due_in : (items : List F) (at : ℕ) (kept : Latest) → kept ≡ stored items
        → (is_said_due (slice_get (words items) at)) ≡ is_input_due kept at
    due_in items at kept is = ap (λ (w : Latest). is_input_due w at) (sym is)

    pub not_asked_in : (items feeds : List F) (at : ℕ) (kept : Latest) → items ≡ feeds
        → kept ≡ stored items → at < length feeds → is_input_due kept at ≡ false →
        ChangedAt (PolledIfRuns may same refusable) at (map view feeds) (map view feeds)
    not_asked_in items feeds at kept same' is low over =
        not_asked feeds at low (ap (λ fs. is_said_due (slice_get (words fs) at)) (sym same') ∙ due_in items at kept is ∙ over)

    pub asked_in : (items feeds : List F) (at : ℕ) (before after : F) (heard : Said (Unit {0}))
        (kept : Latest) → items ≡ feeds → kept ≡ stored items → at < length feeds →
        is_input_due kept at ≡ true → before ≡ get_or items at before → Polls before heard after →
        ChangedAt (PolledIfRuns may same refusable) at (map view feeds) (map view (set items at after))
    asked_in items feeds at before after heard kept same' is low due found polls =
        subst (λ (fs : List F). ChangedAt (PolledIfRuns may same refusable) at (map view fs) (map view (set items at after))) same'
        (asked items at before after heard (within items feeds at same' low) found polls (due_in items at kept is ∙ due))

    -- a core that was given the worker's result keeps the words that are stored
    pub words_in_step : (items feeds : List F) (at : ℕ) (before after : F) (heard : Said (Unit {0}))
        (kept later : Latest) → items ≡ feeds → kept ≡ stored items → at < length feeds →
        before ≡ get_or items at before → Polls before heard after → later ≡ latest_after kept (from_input at heard) →
        later ≡ stored (set items at after)
    words_in_step items feeds at before after heard kept later same' is low found polls told =
        told ∙ ap (λ (w : Latest). latest_after w (from_input at heard)) is
        ∙ ap (λ (ws : List (Said (Unit {0}))). record (stored items) { inputs = ws }) (words_changed items at before after heard (within items feeds at same' low) found polls)

-- a stream's capture worker, by whether the outcome waits for it
module _ {S E C F D : Type 0} (views : SystemViews S E C F D (Unit {0}) Bytes) (now : RunningView C F D) where
  abbrev waits : Side → RunningView C F D → Bool
  waits stream r = is_awaited stream (awaited (shape_view r.shape) (stored_in views.child views.feed views.drain r))

  -- whether the outcome waits, as the core found
  pub test_is : {inside : RunningView C F D} {known : Latest} {found : Option Side} {test : Bool} (stream : Side) → inside ≡ now → known ≡ stored_in views.child views.feed views.drain inside
      → found ≡ awaited (shape_view inside.shape) known → test ≡ is_awaited stream found → waits stream now ≡ test
  test_is {inside} stream is knows finds tests = sym (tests ∙ ap (λ o. is_awaited stream o) (finds ∙ ap (λ w. awaited (shape_view inside.shape) w) knows) ∙ ap (λ r. waits stream r) is)

  -- a capture worker for which the outcome doesn't wait is as before
  pub left : (stream : Side) → waits stream now ≡ false → StreamPolled views stream now now
  left side.Out over = rw over (refl, refl)
  left side.Err over = rw over (refl, refl)

  -- one for which it waits was polled
  pub polled : (drains : PerSide (Option D)) → drains ≡ record { out = now.output; err = now.error }
      → (later : Shape) (children : List C) (feeds : List F) (stream : Side) (before after : D)
      → waits stream now ≡ true → at_side drains stream ≡ Some before
      → IsPolled views.drain_says views.drain_same views.drain_refusable (views.drain before) (views.drain after)
      → StreamPolled views stream now (record { shape = later; children = children; feeds = feeds; output = (with_side drains stream (Some after)).out; error = (with_side drains stream (Some after)).err })
  polled drains are later children feeds side.Out before after wait there polls = rw (wait, sym (ap (λ ds. ds.out) are) ∙ there) (polls, ap (λ ds. ds.err) are)
  polled drains are later children feeds side.Err before after wait there polls = rw (wait, sym (ap (λ ds. ds.err) are) ∙ there) (polls, ap (λ ds. ds.out) are)

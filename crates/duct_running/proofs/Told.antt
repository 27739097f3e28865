-- After one more result, each stored result still is one that may be returned.
use Rattle.std.proofs.Common.{◌≡◌, ◌<◌, ◌≤◌, refl, ap, sym, ◌∙◌, subst, arith, inl, inr, ℕ, zero, suc, Bool, List, [], ◌∷◌, ◌++◌, All, IfSome, map, length, get_or, set, Ok, Err, Some, None, option_map, option_to_list, Option, Vec, Global}
use Rattle.duct_running.proofs.Common.{All-cons, All-head, All-nil, All-tail, Answer, ChildView, IsUnasked, Obeyed, OrdersChild, PollsChild, child_after, child_ordered, ending_after, JobView, PollsJob, kept_after, unpolled_job, ExitStatus, Said, bytes_said, from_drain, Latest, latest_after, ShapeView, SystemViews, WhileRuns, AreUnasked, Bytes, stored_latest}
use mathlib.Core.Logic.{∥∥₁_map}
use Rattle.duct_system.specs.declared.system.Order.{Order}
use Rattle.duct_system.specs.declared.system.Said.TheVariants as said
use Rattle.duct_system.specs.declared.system.Side.{Side}
use Rattle.duct_system.specs.declared.system.Side.TheVariants as side
use Rattle.duct_status.specs.PerSide.{at_side, with_side}
use Rattle.duct_status.specs.declared.per_side.PerSide.{PerSide}
use Rattle.duct_running.specs.RunningInvariant.{RunningInvariant}
use Rattle.duct_running.specs.Allowed.{AnswersAllowed, WorkerResultAllowed, ChildAnswersAllowed}

-- the ending of a child after a poll is one that it may return
ending_told : (may : ℕ → Answer → Type 0) (number : ℕ) (before : Option ExitStatus)
    (answer : Answer) → may number answer
    → IfSome before (λ status. may number (Ok (Some status))) →
    IfSome (ending_after before answer) (λ status. may number (Ok (Some status)))
ending_told may number (Some status) answer told ended = ended
ending_told may number None (Ok (Some status)) told ended = told
ending_told may number None (Ok None) told ended = tt
ending_told may number None (Err fault) told ended = tt

told_after : (may : ℕ → Answer → Type 0) (before after : ChildView) (answer : Answer)
    → PollsChild may before answer after → ChildAnswersAllowed may before → ChildAnswersAllowed may after
told_after may before after answer polls told =
    let here : ChildAnswersAllowed may (child_after answer before) = record { answered = polls.told; ended = ending_told may before.number before.ending answer polls.told told.ended } in
    subst (λ (c : ChildView). ChildAnswersAllowed may c) (sym polls.after_is) here

-- the results that a child stores after an order are ones that it may return
told_ordered : (may : ℕ → Answer → Type 0) (obeys : ℕ → Order → Bool → Obeyed → Type 0) (order : Order)
    (before after : ChildView) (answer : Obeyed) →
    OrdersChild obeys order before answer after → ChildAnswersAllowed may before → ChildAnswersAllowed may after
told_ordered may obeys order before after answer (inl (heard, given)) told =
    let here : ChildAnswersAllowed may (child_ordered order answer before) = record { answered = told.answered; ended = told.ended } in
    subst (λ (c : ChildView). ChildAnswersAllowed may c) (sym given) here
told_ordered may obeys order before after answer (inr (heard, unasked, none)) told = subst (λ (c : ChildView). ChildAnswersAllowed may c) (sym unasked) told

-- what a worker keeps after a poll is a result that it may return
kept_told : {T : Type 0} (may : ℕ → Said T → Type 0) (number : ℕ) (kept heard : Said T)
    → may number heard → WhileRuns kept (Unit {0}) (may number kept) →
    WhileRuns (kept_after kept heard) (Unit {0}) (may number (kept_after kept heard))
kept_told may number said.Running said.Running told before = tt
kept_told may number said.Running (said.Done value) told before = told
kept_told may number said.Running (said.Fault fault) told before = told
kept_told may number (said.Done value) heard told before = before
kept_told may number (said.Fault fault) heard told before = before

job_told : {T : Type 0} (may : ℕ → Said T → Type 0) (same : T → T → Type 0) (refusable : Type 0)
    (before after : JobView T) (heard : Said T) →
    PollsJob may same refusable before heard after → WorkerResultAllowed may before → WorkerResultAllowed may after
job_told may same refusable before after heard polls told =
    subst (λ j. WorkerResultAllowed may j) (sym polls.after_is) (kept_told may before.number before.kept heard polls.told told)

-- a property of all items of a list, where one item is replaced
all_with : {X Y : Type 0} (view : X → Y) (P : Y → Type 0) (items : List X) (at : ℕ)
    (before after : X) → at < length items → before ≡ get_or items at before →
    (P (view before) → P (view after)) → All P (map view items) → All P (map view (set items at after))
all_with view P [] at before after low is goes all = absurd (omega arith)
all_with view P (x ∷ items) zero before after low is goes all =
    All-cons P (view after) (map view items) (goes (subst (λ y. P (view y)) (sym is) (All-head P (view x) (map view items) all))) (All-tail P (view x) (map view items) all)
all_with view P (x ∷ items) (suc at) before after low is goes all =
    All-cons P (view x) (map view (set items at after)) (All-head P (view x) (map view items) all) (all_with view P items at before after (omega arith) is goes (All-tail P (view x) (map view items) all))

module _ (answer : ℕ → Answer → Type 0) (feed : ℕ → Said (Unit {0}) → Type 0) (drain : ℕ → Said Bytes → Type 0) where
  module _ {C : Type 0} (view : C → ChildView) (feeds : List (JobView (Unit {0}))) (output error : Option (JobView Bytes)) (items children : List C) (at : ℕ) (before after : C)
      (same : items ≡ children) (low : at < length children) (is : before ≡ get_or items at before) where
    child_told : (ChildAnswersAllowed answer (view before) → ChildAnswersAllowed answer (view after))
        → ∥ AnswersAllowed answer feed drain (map view items) feeds output error ∥₁ →
        ∥ AnswersAllowed answer feed drain (map view (set items at after)) feeds output error ∥₁
    child_told goes told =
        let low' = subst (λ (cs : List C). at < length cs) (sym same) low in
        ∥∥₁_map told (λ t. record {
          children_told = all_with view (ChildAnswersAllowed answer) items at before after low' is goes t.children_told;
          feeds_told = t.feeds_told;
          output_told = t.output_told;
          error_told = t.error_told;
        })

    -- where a child was polled
    pub polled_told : (heard : Answer) → PollsChild answer (view before) heard (view after)
        → ∥ AnswersAllowed answer feed drain (map view items) feeds output error ∥₁ →
        ∥ AnswersAllowed answer feed drain (map view (set items at after)) feeds output error ∥₁
    polled_told heard polls = child_told (told_after answer (view before) (view after) heard polls)

    -- where a child was given an order
    pub ordered_told : (obeys : ℕ → Order → Bool → Obeyed → Type 0) (order : Order) (heard : Obeyed)
        → OrdersChild obeys order (view before) heard (view after) →
        ∥ AnswersAllowed answer feed drain (map view items) feeds output error ∥₁ → ∥ AnswersAllowed answer feed drain (map view (set items at after)) feeds output error ∥₁
    ordered_told obeys order heard orders = child_told (told_ordered answer obeys order (view before) (view after) heard orders)

  -- where an input worker was polled
  pub feed_told : {F : Type 0} (view : F → JobView (Unit {0})) (children : List ChildView)
      (output error : Option (JobView Bytes)) (items feeds : List F) (at : ℕ) (before after : F)
      → items ≡ feeds → at < length feeds → before ≡ get_or items at before → (same : Unit {0} → Unit {0} → Type 0) (refusable : Type 0) (heard : Said (Unit {0}))
      → PollsJob feed same refusable (view before) heard (view after) → ∥ AnswersAllowed answer feed drain children (map view items) output error ∥₁
      → ∥ AnswersAllowed answer feed drain children (map view (set items at after)) output error ∥₁
  feed_told {F} view children output error items feeds at before after alike low is same refusable heard polls told =
      let low' = subst (λ (fs : List F). at < length fs) (sym alike) low in
      ∥∥₁_map told (λ t. record {
        children_told = t.children_told;
        feeds_told = all_with view (WorkerResultAllowed feed) items at before after low' is (job_told feed same refusable (view before) (view after) heard polls) t.feeds_told;
        output_told = t.output_told;
        error_told = t.error_told;
      })

  -- children and workers that were never polled store no result
  module _ {C F D : Type 0} (child : C → ChildView) (job : F → JobView (Unit {0})) (worker : D → JobView Bytes) where
    silent_child : (c : ChildView) → IsUnasked c → ChildAnswersAllowed answer c
    silent_child c unasked = record { answered = rw unasked.silent tt; ended = rw unasked.alive tt }

    children_silent : (children : List C) → All (λ c. IsUnasked (child c)) children
        → All (ChildAnswersAllowed answer) (map child children)
    children_silent [] unasked = All-nil (ChildAnswersAllowed answer)
    children_silent (c ∷ children) unasked =
        All-cons (ChildAnswersAllowed answer) (child c) (map child children) (silent_child (child c) (All-head (λ c. IsUnasked (child c)) c children unasked))
        (children_silent children (All-tail (λ c. IsUnasked (child c)) c children unasked))

    silent_job : {T : Type 0} (may : ℕ → Said T → Type 0) (view : JobView T)
        → view ≡ unpolled_job view.number → WorkerResultAllowed may view
    silent_job may view unpolled = rw (ap (λ j. j.kept) unpolled) tt

    feeds_silent : (feeds : List F) → All (λ f. job f ≡ unpolled_job (job f).number) feeds
        → All (WorkerResultAllowed feed) (map job feeds)
    feeds_silent [] unpolled = All-nil (WorkerResultAllowed feed)
    feeds_silent (f ∷ feeds) unpolled =
        All-cons (WorkerResultAllowed feed) (job f) (map job feeds) (silent_job feed (job f) (All-head (λ f. job f ≡ unpolled_job (job f).number) f feeds unpolled))
        (feeds_silent feeds (All-tail (λ f. job f ≡ unpolled_job (job f).number) f feeds unpolled))

    drain_silent : (d : Option D) → All (λ d. worker d ≡ unpolled_job (worker d).number)
        (option_to_list d) → IfSome (option_map worker d) (WorkerResultAllowed drain)
    drain_silent None unpolled = tt
    drain_silent (Some d) unpolled = silent_job drain (worker d) (All-head (λ d. worker d ≡ unpolled_job (worker d).number) d [] unpolled)

-- children and workers that were never polled store what may be returned
module _ {S E C F D : Type 0} (views : SystemViews S E C F D (Unit {0}) Bytes) (children : List C) (feeds : List F) (output error : Option D) where
  pub none_told : AreUnasked views children feeds output error
      → ∥ AnswersAllowed views.may_answer views.feed_says views.drain_says (map views.child children) (map views.feed feeds) (option_map views.drain output) (option_map views.drain error) ∥₁
  none_told unasked = ∣ record {
    children_told = children_silent views.may_answer views.feed_says views.drain_says views.child views.feed views.drain children unasked.children_unasked;
    feeds_told = feeds_silent views.may_answer views.feed_says views.drain_says views.child views.feed views.drain feeds unasked.feeds_unpolled;
    output_told = drain_silent views.may_answer views.feed_says views.drain_says views.child views.feed views.drain output unasked.output_unpolled;
    error_told = drain_silent views.may_answer views.feed_says views.drain_says views.child views.feed views.drain error unasked.error_unpolled;
  } ∣₁

-- the bytes of a capture worker's word after one more result
bytes_kept : (kept heard : Said Bytes)
    → kept_after (bytes_said kept) (bytes_said heard) ≡ bytes_said (kept_after kept heard)
bytes_kept said.Running heard = refl
bytes_kept (said.Done value) heard = refl
bytes_kept (said.Fault fault) heard = refl

-- there is still room for the capture workers, where stderr's is replaced
error_fits : {D : Type 0} (output : Option D) (before after : D) (room : ℕ)
    → length (option_to_list output ++ before ∷ []) ≤ room → length (option_to_list output ++ after ∷ []) ≤ room
error_fits None before after room fits = fits
error_fits (Some worker) before after room fits = fits

-- a value that a stream has already changes nothing
pub with_same : {T : Type 0} (both : PerSide T) (stream : Side) (value : T)
    → at_side both stream ≡ value → both ≡ with_side both stream value
with_same both side.Out value is = ap (λ v. record both { out = v }) is
with_same both side.Err value is = ap (λ v. record both { err = v }) is

-- where a capture worker was polled
module _ {C F D : Type 0} (child : C → ChildView) (feed : F → JobView (Unit {0})) (drain : D → JobView Bytes) (answer : ℕ → Answer → Type 0)
    (feed_says : ℕ → Said (Unit {0}) → Type 0) (drain_says : ℕ → Said Bytes → Type 0) (ids : List ℕ) (children : List C) (feeds : List F) (room : Vec D Global) where
  abbrev Holds : ShapeView → Latest → PerSide (Option D) → Type 0
  Holds shape words drains = RunningInvariant child feed drain answer feed_says drain_says shape words ids children feeds drains.out drains.err room

  abbrev stored_with : PerSide (Option D) → Latest
  stored_with drains = stored_latest (map child children) (map feed feeds) (option_map drain drains.out) (option_map drain drains.err)

  module _ (same : Bytes → Bytes → Type 0) (refusable : Type 0) (before after : D) (heard : Said Bytes) (polls : PollsJob drain_says same refusable (drain before) heard (drain after)) where
    word_is : kept_after (bytes_said (drain before).kept) (bytes_said heard) ≡ bytes_said (drain after).kept
    word_is = bytes_kept (drain before).kept heard ∙ sym (ap (λ (j : JobView Bytes). bytes_said j.kept) polls.after_is)

    holds : (shape : ShapeView) (words : Latest) (stream : Side) (drains : PerSide (Option D)) → Holds shape words (with_side drains stream (Some before))
        → Holds shape (latest_after words (from_drain stream (bytes_said heard))) (with_side drains stream (Some after))
    holds shape words side.Out drains old = record {
      heard = ap (λ (w : Latest). latest_after w (from_drain side.Out (bytes_said heard))) old.heard
          ∙ ap (λ (s : Said (List ℕ)). record (stored_with drains) { drains = record (stored_with drains).drains { out = Some s } }) word_is;
      told = ∥∥₁_map old.told (λ t. record { children_told = t.children_told; feeds_told = t.feeds_told; output_told = job_told drain_says same refusable (drain before) (drain after) heard polls t.output_told; error_told = t.error_told });
      commands = old.commands;
      inputs = old.inputs;
      named = old.named;
      empty = old.empty;
      fits = old.fits;
    }
    holds shape words side.Err drains old = record {
      heard = ap (λ (w : Latest). latest_after w (from_drain side.Err (bytes_said heard))) old.heard
          ∙ ap (λ (s : Said (List ℕ)). record (stored_with drains) { drains = record (stored_with drains).drains { err = Some s } }) word_is;
      told = ∥∥₁_map old.told (λ t. record { children_told = t.children_told; feeds_told = t.feeds_told; output_told = t.output_told; error_told = job_told drain_says same refusable (drain before) (drain after) heard polls t.error_told });
      commands = old.commands;
      inputs = old.inputs;
      named = old.named;
      empty = old.empty;
      fits = error_fits drains.out before after _ old.fits;
    }

    pub drain_holds : (shape later : ShapeView) (words told : Latest) (stream : Side) (drains : PerSide (Option D)) → Holds shape words drains → at_side drains stream ≡ Some before
        → later ≡ shape → told ≡ latest_after words (from_drain stream (bytes_said heard)) → Holds later told (with_side drains stream (Some after))
    drain_holds shape later words told stream drains old there shapes tells =
        subst (λ w. Holds later w (with_side drains stream (Some after))) (sym tells) (subst (λ s. Holds s (latest_after words (from_drain stream (bytes_said heard))) (with_side drains stream (Some after))) (sym shapes)
        (holds shape words stream drains (subst (λ ds. Holds shape words ds) (with_same drains stream (Some before) there) old)))

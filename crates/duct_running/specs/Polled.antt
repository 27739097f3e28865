-- What a poll of a running expression polls, and what it returns for the outcome of the stored
-- words.
use Rattle.std.specs.Prelude.{ℕ, zero, suc, Bool, false, List, [], ◌∷◌, ◌≡◌, MatchBool, MatchOption, map, string_bytes, Ok, Err, Some, None, IsOkAnd, IsErrAnd, IsSomeAnd, option_map, Option, Result}
use Rattle.std.specs.declared.alloc.Global.{Global}
use Rattle.std.specs.declared.sync.Arc.{Arc}
use Rattle.std.specs.Arc.{arc_value}
use Rattle.std.specs.List.{AllZip}
use Rattle.duct_system.specs.Child.{Answer, ChildView, PollsChild}
use Rattle.duct_system.specs.Job.{JobView, PollsJob}
use Rattle.duct_status.specs.Outcome.{Concludes, awaited}
use Rattle.duct_status.specs.ShapeView.{ShapeView, shape_view}
use Rattle.duct_status.specs.ReplyView.{ReplyView, noted, unknown, pending, faulted, answered, failed, no_memory}
use Rattle.duct_status.specs.Latest.{Latest, is_same_side}
use Rattle.duct_system.specs.declared.error.Error.{Error}
use Rattle.duct_system.specs.declared.error.Error.TheVariants as error
use Rattle.duct_system.specs.declared.system.ExitStatus.{ExitStatus}
use Rattle.duct_system.specs.declared.system.Output.{Output}
use Rattle.duct_system.specs.declared.system.Said.{Said}
use Rattle.duct_system.specs.declared.system.Said.TheVariants as said
use Rattle.duct_system.specs.declared.system.Side.{Side}
use Rattle.duct_system.specs.declared.system.Side.TheVariants as side
use Rattle.duct_start.specs.Running.{RunningView}
use Rattle.duct_system.specs.SystemViews.{SystemViews}
use Rattle.duct_running.specs.Stored.{Bytes, stored_in}
use Rattle.duct_system.specs.declared.system.Side.TheVariants.{Out, Err}
use Rattle.duct_running.specs.NumbersView.{numbers_in}

-- what a poll returns: nothing yet, an output, or an error
abbrev pub Polled : Type 0
Polled = Result (Option (Arc Output Global)) Error

-- the output has this status and these bytes
abbrev pub IsOutput : ExitStatus → List ℕ → List ℕ → Output → Type 0
IsOutput status out err output =
    (output.status ≡ status) × (output.stdout.items ≡ out) × (output.stderr.items ≡ err)

-- the error is that of a checked failure with this message
abbrev pub IsChecked : List ℕ → Error → Type 0
IsChecked text (error.Checked message) = string_bytes (arc_value message) ≡ text
IsChecked text other = ⊥

-- what a poll returns for a reply of the core
abbrev pub Gives : ReplyView → Polled → Type 0
Gives pending polled = polled ≡ Ok None
Gives (faulted fault) polled = polled ≡ Err (error.System fault)
Gives (answered status out err) polled =
    IsOkAnd polled (λ found. IsSomeAnd found (λ output. IsOutput status out err (arc_value output)))
Gives (failed text) polled = IsErrAnd polled (IsChecked text)
Gives no_memory polled = polled ≡ Err error.Memory
Gives noted polled = ⊥
Gives unknown polled = ⊥

-- the reply is one to the question how the expression ended
abbrev pub IsConclusion : ReplyView → Type 0
IsConclusion noted = ⊥
IsConclusion unknown = ⊥
IsConclusion pending = Unit {0}
IsConclusion (faulted fault) = Unit {0}
IsConclusion (answered status out err) = Unit {0}
IsConclusion (failed text) = Unit {0}
IsConclusion no_memory = Unit {0}

-- a poll returned the outcome of these words
abbrev pub IsOutcome : ShapeView → Latest → Polled → Type 0
IsOutcome shape words polled =
    (reply : ReplyView) × Concludes shape words reply × Gives reply polled

-- a child was polled once, or had ended and is as before
abbrev pub AskedIfDue : (ℕ → Answer → Type 0) → ChildView → ChildView → Type 0
AskedIfDue may before after =
    MatchOption before.ending ((answer : Answer) × PollsChild may before answer after)
    (λ status. after ≡ before)

-- each child was polled once, or had ended and is as before
abbrev pub AllAsked : (ℕ → Answer → Type 0) → List ChildView → List ChildView → Type 0
AllAsked may = AllZip (AskedIfDue may)

-- a worker was polled once
abbrev pub IsPolled : {T : Type 0} → (ℕ → Said T → Type 0) → (T → T → Type 0) → Type 0
    → JobView T → JobView T → Type 0
IsPolled {T} may same refusable before after =
    (heard : Said T) × PollsJob may same refusable before heard after

-- the first where a worker of this word has not finished, else the second
abbrev pub WhileRuns : {T : Type 0} → Said T → Type 0 → Type 0 → Type 0
WhileRuns said.Running runs over = runs
WhileRuns (said.Done value) runs over = over
WhileRuns (said.Fault fault) runs over = over

-- a worker was polled once, or had finished and is as before
abbrev pub PolledIfRuns : {T : Type 0} → (ℕ → Said T → Type 0) → (T → T → Type 0) → Type 0
    → JobView T → JobView T → Type 0
PolledIfRuns may same refusable before after =
    WhileRuns before.kept (IsPolled may same refusable before after) (after ≡ before)

-- each worker was polled once, or had finished and is as before
abbrev pub AllPolled : {T : Type 0} → (ℕ → Said T → Type 0) → (T → T → Type 0) → Type 0
    → List (JobView T) → List (JobView T) → Type 0
AllPolled may same refusable = AllZip (PolledIfRuns may same refusable)

-- there is a worker, and it was polled once
abbrev pub IsThereAndPolled : {T : Type 0} → (ℕ → Said T → Type 0) → (T → T → Type 0) → Type 0
    → Option (JobView T) → Option (JobView T) → Type 0
IsThereAndPolled may same refusable None after = ⊥
IsThereAndPolled may same refusable (Some before) None = ⊥
IsThereAndPolled may same refusable (Some before) (Some after) =
    IsPolled may same refusable before after

-- whether the outcome waits for this stream's capture worker
abbrev pub is_awaited : Side → Option Side → Bool
is_awaited stream None = false
is_awaited stream (Some other) = is_same_side other stream

-- the relation holds of the item at this place before and after, and the other items are as before
abbrev pub ChangedAt : {T : Type 0} → (T → T → Type 0) → ℕ → List T → List T → Type 0
ChangedAt changes at [] afters = ⊥
ChangedAt changes zero (before ∷ befores) [] = ⊥
ChangedAt changes zero (before ∷ befores) (after ∷ afters) =
    changes before after × (afters ≡ befores)
ChangedAt changes (suc at) (before ∷ befores) [] = ⊥
ChangedAt changes (suc at) (before ∷ befores) (after ∷ afters) =
    (after ≡ before) × ChangedAt changes at befores afters

module _ {S E C F D : Type 0} (views : SystemViews S E C F D (Unit {0}) Bytes) where
  -- the child at this place was polled once, or had ended and is as before
  abbrev pub ChildAskedAt : ℕ → RunningView C F D → RunningView C F D → Type 0
  ChildAskedAt at before after =
      ChangedAt (AskedIfDue views.may_answer) at (map views.child before.children)
      (map views.child after.children)

  -- each child of a running expression was polled once, or had ended and is as before
  abbrev pub ChildrenAsked : RunningView C F D → RunningView C F D → Type 0
  ChildrenAsked before after =
      AllAsked views.may_answer (map views.child before.children) (map views.child after.children)

  -- the input worker at this place was polled once, or had finished and is as before
  abbrev pub FeedPolledAt : ℕ → RunningView C F D → RunningView C F D → Type 0
  FeedPolledAt at before after =
      ChangedAt (PolledIfRuns views.feed_says views.feed_same views.feed_refusable) at
      (map views.feed before.feeds) (map views.feed after.feeds)

  -- each input worker was polled once, or had finished and is as before
  abbrev pub FeedsPolled : RunningView C F D → RunningView C F D → Type 0
  FeedsPolled before after =
      AllPolled views.feed_says views.feed_same views.feed_refusable (map views.feed before.feeds)
      (map views.feed after.feeds)

  -- a stream's capture worker was polled once where the outcome of what this running expression
  -- stores waited for it, else it is as before
  abbrev pub DrainPolled : Side → RunningView C F D → Option D → Option D → Type 0
  DrainPolled stream running before after =
      let words = stored_in views.child views.feed views.drain running in
      MatchBool (is_awaited stream (awaited (shape_view running.shape) words))
      (IsThereAndPolled views.drain_says views.drain_same views.drain_refusable
      (option_map views.drain before) (option_map views.drain after))
      (option_map views.drain after ≡ option_map views.drain before)

  -- the same of one stream's capture worker, and the other's is as before
  abbrev pub StreamPolled : Side → RunningView C F D → RunningView C F D → Type 0
  StreamPolled side.Out before after =
      DrainPolled side.Out before before.output after.output × (after.error ≡ before.error)
  StreamPolled side.Err before after =
      DrainPolled side.Err before before.error after.error × (after.output ≡ before.output)

  -- a poll returned the outcome of what a running expression stores
  abbrev pub ReturnsOutcome : RunningView C F D → Polled → Type 0
  ReturnsOutcome running polled =
      IsOutcome (shape_view running.shape)
      (stored_in views.child views.feed views.drain running) polled

-- the shape is as before; each child that had not ended and each input worker that had not finished
-- was polled once, each capture worker once if the outcome waited for it, and no other. Whether
-- stdout's is polled depends on what the children and input workers store then; whether stderr's
-- is, on stdout's too
pub record PolledOnce {S E C F D : Type 0} (views : SystemViews S E C F D (Unit {0}) Bytes)
    (before after : RunningView C F D) : Type 0 where
  pub shape : shape_view after.shape ≡ shape_view before.shape
  pub children : ChildrenAsked views before after
  pub feeds : FeedsPolled views before after
  pub output : DrainPolled views Out
      (record after { output = before.output; error = before.error }) before.output after.output
  pub error : DrainPolled views Err (record after { error = before.error }) before.error after.error

-- the shape, the numbers, and the orders that the children were given are as before
pub record Stays {C F D V W : Type 0} (child : C → ChildView) (feed : F → JobView V)
    (drain : D → JobView W) (before after : RunningView C F D) : Type 0 where
  pub shape_is : shape_view after.shape ≡ shape_view before.shape
  pub numbers_are : numbers_in child feed drain after ≡ numbers_in child feed drain before
  pub orders_are : map (λ c. c.orders) (map child after.children)
      ≡ map (λ c. c.orders) (map child before.children)

module _ {S E C F D V W : Type 0} (views : SystemViews S E C F D V W) where
  -- the shape, the numbers, and the orders that the children were given are as before
  abbrev pub StaysSame : RunningView C F D → RunningView C F D → Type 0
  StaysSame before after = Stays views.child views.feed views.drain before after

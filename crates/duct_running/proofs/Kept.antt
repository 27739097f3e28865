-- A poll leaves the shape, the numbers and the orders as they were.
use Rattle.duct_running.proofs.Common.{MatchOption, Answer, ChildView, PollsChild, child_after, JobView, ExitStatus, Said, shape_view, RunningView, AllAsked, WhileRuns, IsPolled, AllPolled, IsThereAndPolled, Stays}
use Rattle.std.specs.Prelude.{ℕ, Bool, true, false, List, [], ◌∷◌, map, MatchBool, Some, None}
use Rattle.std.proofs.Common.{◌≡◌, refl, ap, ◌∙◌, option_map, Option}
use Rattle.duct_system.specs.declared.system.Said.TheVariants as said

module _ {X : Type 0} (part : ChildView → X)
    (alike : (answer : Answer) (child : ChildView) → part (child_after answer child) ≡ part child)
    (may : ℕ → Answer → Type 0) where
  child_kept : (before after : ChildView) (ending : Option ExitStatus)
      → MatchOption ending ((answer : Answer) × PollsChild may before answer after) (λ status. after ≡ before)
      → part after ≡ part before
  child_kept before after None polled = ap part polled.1.after_is ∙ alike polled.0 before
  child_kept before after (Some status) same = ap part same

  children_kept : (befores afters : List ChildView) → AllAsked may befores afters
      → map part afters ≡ map part befores
  children_kept [] [] all = refl
  children_kept [] (after ∷ afters) all = absurd all
  children_kept (before ∷ befores) [] all = absurd all
  children_kept (before ∷ befores) (after ∷ afters) all =
      λ i. child_kept before after before.ending all.0 i ∷ children_kept befores afters all.1 i

module _ {T : Type 0} (may : ℕ → Said T → Type 0) (same : T → T → Type 0) (refusable : Type 0) where
  job_kept : (before after : JobView T) → IsPolled may same refusable before after
      → after.number ≡ before.number
  job_kept before after polled = ap (λ (j : JobView T). j.number) polled.1.after_is

  feed_kept : (before after : JobView T) (kept : Said T)
      → WhileRuns kept (IsPolled may same refusable before after) (after ≡ before)
      → after.number ≡ before.number
  feed_kept before after said.Running polled = job_kept before after polled
  feed_kept before after (said.Done value) is = ap (λ (j : JobView T). j.number) is
  feed_kept before after (said.Fault fault) is = ap (λ (j : JobView T). j.number) is

  feeds_kept : (befores afters : List (JobView T)) → AllPolled may same refusable befores afters
      → map (λ j. j.number) afters ≡ map (λ j. j.number) befores
  feeds_kept [] [] all = refl
  feeds_kept [] (after ∷ afters) all = absurd all
  feeds_kept (before ∷ befores) [] all = absurd all
  feeds_kept (before ∷ befores) (after ∷ afters) all =
      λ i. feed_kept before after before.kept all.0 i ∷ feeds_kept befores afters all.1 i

  drain_kept : (before after : Option (JobView T))
      → IsThereAndPolled may same refusable before after
      → option_map (λ j. j.number) after ≡ option_map (λ j. j.number) before
  drain_kept None after polled = absurd polled
  drain_kept (Some before) None polled = absurd polled
  drain_kept (Some before) (Some after) polled = ap (λ n. Some n) (job_kept before after polled)

  where_kept : (test : Bool) (before after : Option (JobView T))
      → MatchBool test (IsThereAndPolled may same refusable before after) (after ≡ before)
      → option_map (λ j. j.number) after ≡ option_map (λ j. j.number) before
  where_kept true before after polled = drain_kept before after polled
  where_kept false before after is = ap (option_map (λ (j : JobView T). j.number)) is

module _ {C F D V W : Type 0} (child : C → ChildView) (feed : F → JobView V) (drain : D → JobView W)
    (may : ℕ → Answer → Type 0) (says : ℕ → Said V → Type 0) (same : V → V → Type 0) (refusable : Type 0)
    (tells : ℕ → Said W → Type 0) (alike : W → W → Type 0) (dear : Type 0) (before after : RunningView C F D) where
  -- one poll
  pub stays : (one other : Bool) → shape_view after.shape ≡ shape_view before.shape
      → AllAsked may (map child before.children) (map child after.children)
      → AllPolled says same refusable (map feed before.feeds) (map feed after.feeds)
      → MatchBool one (IsThereAndPolled tells alike dear (option_map drain before.output) (option_map drain after.output)) (option_map drain after.output ≡ option_map drain before.output)
      → MatchBool other (IsThereAndPolled tells alike dear (option_map drain before.error) (option_map drain after.error)) (option_map drain after.error ≡ option_map drain before.error)
      → Stays child feed drain before after
  stays one other shape children feeds output error = record {
    shape_is = shape;
    numbers_are = λ i. record {
      children = children_kept (λ (c : ChildView). c.number) (λ answer child. refl) may _ _ children i;
      feeds = feeds_kept says same refusable _ _ feeds i;
      output = where_kept tells alike dear one _ _ output i;
      error = where_kept tells alike dear other _ _ error i;
    };
    orders_are = children_kept (λ (c : ChildView). c.orders) (λ answer child. refl) may _ _ children;
  }

  -- one poll after others
  pub stays_on : (first : RunningView C F D) → Stays child feed drain first before
      → Stays child feed drain before after → Stays child feed drain first after
  stays_on first old new = record {
    shape_is = new.shape_is ∙ old.shape_is;
    numbers_are = new.numbers_are ∙ old.numbers_are;
    orders_are = new.orders_are ∙ old.orders_are;
  }

-- Where a poll of an expression returns nothing yet, some child or worker may return that it runs.
use Rattle.duct_running.proofs.Common.{MatchOption, length-map, Contains-append_left, Contains-append_right, Answer, ChildView, PollsChild, ending_after, JobView, kept_after, Said, bytes_said, OutcomeView, waits, faults, finished, AnswersOutcome, awaited, awaited_by, captured, command_said, ended, first_fault, in_tree_order, input_said, outcome, some_runs, with_bytes, ShapeView, command, pipe, input, unchecked, command_count, input_count, Word, SystemViews, AllAsked, AllPolled, AskedIfDue, Gives, IsOutcome, IsPolled, IsThereAndPolled, WhileRuns, is_awaited, Bytes, stored_latest, stored_word}
use Rattle.std.specs.Prelude.{ℕ, zero, suc, Bool, true, false, List, [], ◌∷◌, ◌++◌, map, length, slice_get, MatchBool, Ok, Err, Some, None}
use Rattle.std.proofs.Common.{◌≡◌, ◌+◌, ◌≤◌, ◌<◌, ◌⊎◌, refl, ap, sym, ◌∙◌, subst, arith, inl, inr, option_map, option_to_list, Option}
use Rattle.duct_system.specs.declared.system.Fault.{Fault}
use Rattle.duct_system.specs.declared.system.Said.TheVariants as said
use Rattle.duct_system.specs.declared.system.Side.TheVariants as side
use Rattle.duct_status.specs.Endings.{Endings}
use Rattle.duct_status.specs.ReplyView.{ReplyView, noted, unknown, pending, faulted, answered, failed, no_memory}
use Rattle.duct_status.specs.declared.status.Word.TheVariants as word
use Rattle.duct_running.specs.Allowed.{OneRuns, SomeSays}

-- a poll returns nothing yet only where the outcome waits
waits_for : (o : OutcomeView) (t : Endings) (reply : ReplyView) → AnswersOutcome o t reply
    → Gives reply (Ok None) → o ≡ waits
waits_for waits t reply answers gives = refl
waits_for (faults fault) t noted answers gives = absurd gives
waits_for (faults fault) t unknown answers gives = absurd gives
waits_for (faults fault) t pending answers gives = absurd (cc)
waits_for (faults fault) t (faulted other) answers gives = absurd (cc)
waits_for (faults fault) t (answered status out err) answers gives = absurd (cc)
waits_for (faults fault) t (failed text) answers gives = absurd (cc)
waits_for (faults fault) t no_memory answers gives = absurd (cc)
waits_for (finished output error) t noted answers gives = absurd gives
waits_for (finished output error) t unknown answers gives = absurd gives
waits_for (finished output error) t pending answers gives = absurd answers.2
waits_for (finished output error) t (faulted fault) answers gives = absurd answers.2
waits_for (finished output error) t (answered status out err) answers gives = absurd gives
waits_for (finished output error) t (failed text) answers gives = absurd gives
waits_for (finished output error) t no_memory answers gives = absurd (cc)

-- the outcome waits for a command or an input worker that runs, else for a capture worker
waits_where : (fault : Option Fault) (runs : Bool) (next : OutcomeView)
    → ended fault runs next ≡ waits → (runs ≡ true) ⊎
    ((fault ≡ None) × (runs ≡ false) × (next ≡ waits))
waits_where (Some fault) runs next is = absurd (cc)
waits_where None true next is = inl refl
waits_where None false next is = inr (refl, refl, is)

waits_for_bytes : (output error : Said (List ℕ))
    → with_bytes output (λ out. with_bytes error (λ err. finished out err)) ≡ waits →
    (output ≡ said.Running) ⊎ ((error ≡ said.Running) × ((bytes : List ℕ) × (output ≡ said.Done bytes)))
waits_for_bytes said.Running error is = inl refl
waits_for_bytes (said.Fault fault) error is = absurd (cc)
waits_for_bytes (said.Done bytes) said.Running is = inr (refl, (bytes, refl))
waits_for_bytes (said.Done bytes) (said.Fault fault) is = absurd (cc)
waits_for_bytes (said.Done bytes) (said.Done others) is = absurd (cc)

some_runs-append : (xs ys : List (Said (Unit {0}))) → some_runs (xs ++ ys) ≡ true
    → (some_runs xs ≡ true) ⊎ (some_runs ys ≡ true)
some_runs-append [] ys runs = inr runs
some_runs-append (said.Running ∷ xs) ys runs = inl refl
some_runs-append (said.Fault fault ∷ xs) ys runs = some_runs-append xs ys runs
some_runs-append (said.Done value ∷ xs) ys runs = some_runs-append xs ys runs

-- a command or an input worker has the word Running
abbrev HasRunning : List Word → List (Said (Unit {0})) → Type 0
HasRunning commands inputs = ((k : ℕ) × (slice_get commands k ≡ Some word.Running)) ⊎ ((k : ℕ) × (slice_get inputs k ≡ Some said.Running))

there : {X : Type 0} (xs : List X) (k : ℕ) → k < length xs → slice_get xs k ≡ None → ⊥
there [] k low none = omega (arith, low)
there (x ∷ xs) zero low none = cc
there (x ∷ xs) (suc k) low none = there xs k (omega (arith, low)) none

command_runs : (found : Option Word) → (found ≡ None → ⊥)
    → some_runs (command_said found ∷ []) ≡ true → found ≡ Some word.Running
command_runs None is runs = absurd (is refl)
command_runs (Some (word.Ended status)) is runs = absurd (cc)
command_runs (Some word.Running) is runs = refl
command_runs (Some (word.Fault fault)) is runs = absurd (cc)

input_runs : (found : Option (Said (Unit {0}))) → (found ≡ None → ⊥)
    → some_runs (input_said found ∷ []) ≡ true → found ≡ Some said.Running
input_runs None is runs = absurd (is refl)
input_runs (Some said.Running) is runs = refl
input_runs (Some (said.Done value)) is runs = absurd (cc)
input_runs (Some (said.Fault fault)) is runs = absurd (cc)

either : {A B C : Type 0} → A ⊎ B → (A → C) → (B → C) → C
either (inl a) left right = left a
either (inr b) left right = right b

has_running : (t : ShapeView) (c i : ℕ) (commands : List Word) (inputs : List (Said (Unit {0})))
    → c + command_count t ≤ length commands → i + input_count t ≤ length inputs →
    some_runs (in_tree_order t c i commands inputs) ≡ true → HasRunning commands inputs
has_running (command texts) c i commands inputs many fed runs =
    inl (c, command_runs (slice_get commands c) (there commands c (omega (arith, many))) runs)
has_running (pipe l r) c i commands inputs many fed runs =
    either (some_runs-append (in_tree_order l c i commands inputs) (in_tree_order r (c + command_count l) (i + input_count l) commands inputs) runs)
    (has_running l c i commands inputs (omega (arith, many)) (omega (arith, fed)))
    (has_running r (c + command_count l) (i + input_count l) commands inputs (omega (arith, many)) (omega (arith, fed)))
has_running (input t) c i commands inputs many fed runs =
    either (some_runs-append (in_tree_order t c i commands inputs) (input_said (slice_get inputs (i + input_count t)) ∷ []) runs)
    (has_running t c i commands inputs many (omega (arith, fed)))
    (λ last. inr (i + input_count t, input_runs (slice_get inputs (i + input_count t)) (there inputs (i + input_count t) (omega (arith, fed))) last))
has_running (unchecked t) c i commands inputs many fed runs = has_running t c i commands inputs many fed runs

-- what one of some numbers may return, one of more numbers may return
module _ {A : Type 0} (may : ℕ → A → Type 0) (answer : A) where
  says_here : (n : ℕ) (ns : List ℕ) → may n answer → SomeSays may answer (n ∷ ns)
  says_here n ns says = (n, Contains-append_left (n ∷ []) ns n (0, omega arith, refl), says)

  says_later : (n : ℕ) (ns : List ℕ) → SomeSays may answer ns → SomeSays may answer (n ∷ ns)
  says_later n ns some = (some.0, Contains-append_right (n ∷ []) ns some.0 some.1, some.2)

  says_left : (ns ms : List ℕ) → SomeSays may answer ns → SomeSays may answer (ns ++ ms)
  says_left ns ms some = (some.0, Contains-append_left ns ms some.0 some.1, some.2)

  says_right : (ns ms : List ℕ) → SomeSays may answer ms → SomeSays may answer (ns ++ ms)
  says_right ns ms some = (some.0, Contains-append_right ns ms some.0 some.1, some.2)

module _ (may : ℕ → Answer → Type 0) where
  abbrev word_in : ChildView → Word
  word_in child = stored_word child.ending child.last

  running_answer : (answer : Answer) → stored_word (ending_after None answer) (Some answer)
      ≡ word.Running → answer ≡ Ok None
  running_answer (Ok (Some status)) is = absurd (cc)
  running_answer (Ok None) is = refl
  running_answer (Err fault) is = absurd (cc)

  -- a child whose word is Running after a poll may return that it runs
  child_runs : (before after : ChildView) → AskedIfDue may before after
      → word_in after ≡ word.Running → may after.number (Ok None)
  child_runs before after asked runs =
      elim before.ending as (λ e. before.ending ≡ e → MatchOption e ((answer : Answer) × PollsChild may before answer after) (λ status. after ≡ before) → may after.number (Ok None)) [
        | Some status ↦ (λ is same. absurd (let e : word_in after ≡ word.Ended status = ap (λ c. word_in c) same ∙ ap (λ e. stored_word e before.last) is in cc))
        | None ↦ (λ is polled.
            let polls = polled.1 in
            let over : stored_word (ending_after None polled.0) (Some polled.0) ≡ word.Running = sym (ap (λ c. word_in c) polls.after_is ∙ ap (λ e. stored_word (ending_after e polled.0) (Some polled.0)) is) ∙ runs in
            subst (λ n. may n (Ok None)) (sym (ap (λ (c : ChildView). c.number) polls.after_is)) (subst (λ a. may before.number a) (running_answer polled.0 over) polls.told))
      ]
      refl asked

  children_run : (befores afters : List ChildView) (k : ℕ) → AllAsked may befores afters
      → slice_get (map (λ c. word_in c) afters) k ≡ Some word.Running →
      SomeSays may (Ok None) (map (λ (c : ChildView). c.number) afters)
  children_run [] [] k asked runs = absurd (cc)
  children_run [] (after ∷ afters) k asked runs = absurd asked
  children_run (before ∷ befores) [] k asked runs = absurd asked
  children_run (before ∷ befores) (after ∷ afters) zero asked runs = says_here may (Ok None) after.number (map (λ (c : ChildView). c.number) afters) (child_runs before after asked.0 (cc))
  children_run (before ∷ befores) (after ∷ afters) (suc k) asked runs = says_later may (Ok None) after.number (map (λ (c : ChildView). c.number) afters) (children_run befores afters k asked.1 runs)

module _ {T : Type 0} (may : ℕ → Said T → Type 0) (same : T → T → Type 0) (refusable : Type 0) where
  -- a worker that keeps Running after a poll kept it before, and returned it in the poll
  running_said : (before heard : Said T) → kept_after before heard ≡ said.Running
      → (before ≡ said.Running) × (heard ≡ said.Running)
  running_said said.Running heard is = (refl, is)
  running_said (said.Done value) heard is = absurd (cc)
  running_said (said.Fault fault) heard is = absurd (cc)

  job_runs : (before after : JobView T) → IsPolled may same refusable before after
      → after.kept ≡ said.Running → may after.number said.Running
  job_runs before after polled runs =
      let polls = polled.1 in
      let kept = running_said before.kept polled.0 (sym (ap (λ (j : JobView T). j.kept) polls.after_is) ∙ runs) in
      subst (λ n. may n said.Running) (sym (ap (λ (j : JobView T). j.number) polls.after_is)) (subst (λ h. may before.number h) kept.1 polls.told)

  feed_runs : (kept : Said T) (before after : JobView T) → before.kept ≡ kept
      → WhileRuns kept (IsPolled may same refusable before after) (after ≡ before)
      → after.kept ≡ said.Running →
      may after.number said.Running
  feed_runs said.Running before after is polled runs = job_runs before after polled runs
  feed_runs (said.Done value) before after is left runs = absurd (let e : said.Running ≡ said.Done value = sym runs ∙ ap (λ (j : JobView T). j.kept) left ∙ is in cc)
  feed_runs (said.Fault fault) before after is left runs = absurd (let e : said.Running ≡ said.Fault fault = sym runs ∙ ap (λ (j : JobView T). j.kept) left ∙ is in cc)

  feeds_run : (befores afters : List (JobView T)) (k : ℕ)
      → AllPolled may same refusable befores afters
      → slice_get (map (λ (j : JobView T). j.kept) afters) k ≡ Some said.Running →
      SomeSays may said.Running (map (λ (j : JobView T). j.number) afters)
  feeds_run [] [] k asked runs = absurd (cc)
  feeds_run [] (after ∷ afters) k asked runs = absurd asked
  feeds_run (before ∷ befores) [] k asked runs = absurd asked
  feeds_run (before ∷ befores) (after ∷ afters) zero asked runs =
      says_here may said.Running after.number (map (λ (j : JobView T). j.number) afters) (feed_runs before.kept before after refl asked.0 (cc))
  feeds_run (before ∷ befores) (after ∷ afters) (suc k) asked runs = says_later may said.Running after.number (map (λ (j : JobView T). j.number) afters) (feeds_run befores afters k asked.1 runs)

-- a capture worker whose word is Running keeps Running
no_bytes : (kept : Said Bytes) → bytes_said kept ≡ said.Running → kept ≡ said.Running
no_bytes said.Running is = refl
no_bytes (said.Done value) is = absurd (cc)
no_bytes (said.Fault fault) is = absurd (cc)

module _ (may : ℕ → Said Bytes → Type 0) (same : Bytes → Bytes → Type 0) (refusable : Type 0) where
  abbrev numbers : Option (JobView Bytes) → List ℕ
  numbers worker = option_to_list (option_map (λ (j : JobView Bytes). j.number) worker)

  abbrev bytes_in : Option (JobView Bytes) → Option (Said (List ℕ))
  bytes_in worker = option_map (λ (j : JobView Bytes). bytes_said j.kept) worker

  -- a capture worker that was polled and whose word is Running may return that it runs
  drain_runs : (before after : Option (JobView Bytes))
      → IsThereAndPolled may same refusable before after → captured (bytes_in after) ≡ said.Running
      → SomeSays may said.Running (numbers after)
  drain_runs None after polled runs = absurd polled
  drain_runs (Some before) None polled runs = absurd polled
  drain_runs (Some before) (Some after) polled runs = says_here may said.Running after.number [] (job_runs may same refusable before after polled (no_bytes after.kept runs))

  -- so may one that was polled where the test holds, if the test holds while it runs
  polled_runs : (test : Bool) (before after : Option (JobView Bytes))
      → MatchBool test (IsThereAndPolled may same refusable before after) (after ≡ before)
      → (captured (bytes_in before) ≡ said.Running → test ≡ true) →
      captured (bytes_in after) ≡ said.Running → SomeSays may said.Running (numbers after)
  polled_runs true before after polled wait runs = drain_runs before after polled runs
  polled_runs false before after left wait runs = absurd (let e : false ≡ true = wait (ap (λ o. captured (bytes_in o)) (sym left) ∙ runs) in cc)

-- where a poll returns nothing yet, one of these children and workers may return that it runs
module _ {S E C F D : Type 0} (views : SystemViews S E C F D (Unit {0}) Bytes) (shape : ShapeView)
    (children asked : List ChildView) (feeds fed : List (JobView (Unit {0}))) (output read error drained : Option (JobView Bytes)) where
  pub one_runs : AllAsked views.may_answer children asked → AllPolled views.feed_says views.feed_same views.feed_refusable feeds fed
      → MatchBool (is_awaited side.Out (awaited shape (stored_latest asked fed output error))) (IsThereAndPolled views.drain_says views.drain_same views.drain_refusable output read) (read ≡ output)
      → MatchBool (is_awaited side.Err (awaited shape (stored_latest asked fed read error))) (IsThereAndPolled views.drain_says views.drain_same views.drain_refusable error drained) (drained ≡ error)
      → command_count shape ≤ length asked → input_count shape ≤ length fed
      → IsOutcome shape (stored_latest asked fed read drained) (Ok None)
      → OneRuns views (record {
        children = map (λ (c : ChildView). c.number) asked;
        feeds = map (λ (j : JobView (Unit {0})). j.number) fed;
        output = option_map (λ (j : JobView Bytes). j.number) read;
        error = option_map (λ (j : JobView Bytes). j.number) drained;
      })
  one_runs ask poll out err commands inputs is =
      let words = stored_latest asked fed read drained in
      let ordered = in_tree_order shape 0 0 words.commands words.inputs in
      let fault = first_fault ordered in
      let runs = some_runs ordered in
      let pending = waits_for (outcome shape words) _ is.0 is.1 is.2 in
      either (waits_where fault runs (with_bytes (captured words.drains.out) (λ o. with_bytes (captured words.drains.err) (λ e. finished o e))) pending)
      (λ some. either (has_running shape 0 0 words.commands words.inputs (omega (arith, commands, length-map asked (λ (c : ChildView). stored_word c.ending c.last))) (omega (arith, inputs, length-map fed (λ (j : JobView (Unit {0})). j.kept))) some)
      (λ one. inl (children_run views.may_answer children asked one.0 ask one.1)) (λ one. inr (inl (feeds_run views.feed_says views.feed_same views.feed_refusable feeds fed one.0 poll one.1))))
      (λ ended. either (waits_for_bytes (captured words.drains.out) (captured words.drains.err) ended.2)
      (λ here.
      let wait : captured (bytes_in views.drain_says views.drain_same views.drain_refusable output) ≡ said.Running → is_awaited side.Out (awaited shape (stored_latest asked fed output error)) ≡ true =
      λ before. (λ i. is_awaited side.Out (awaited_by (ended.0 i) (ended.1 i) (before i) (captured (bytes_in views.drain_says views.drain_same views.drain_refusable error)))) in
      inr (inr (says_left views.drain_says said.Running (numbers views.drain_says views.drain_same views.drain_refusable read) (numbers views.drain_says views.drain_same views.drain_refusable drained) (polled_runs views.drain_says views.drain_same views.drain_refusable _ output read out wait here))))
      (λ here.
      let wait : captured (bytes_in views.drain_says views.drain_same views.drain_refusable error) ≡ said.Running → is_awaited side.Err (awaited shape (stored_latest asked fed read error)) ≡ true =
      λ before. (λ i. is_awaited side.Err (awaited_by (ended.0 i) (ended.1 i) (here.1.1 i) (before i))) in
      inr (inr (says_right views.drain_says said.Running (numbers views.drain_says views.drain_same views.drain_refusable read) (numbers views.drain_says views.drain_same views.drain_refusable drained) (polled_runs views.drain_says views.drain_same views.drain_refusable _ error drained err wait here.0)))))

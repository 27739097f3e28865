-- The spawn of a command, after its canonical path and its hooks.
use Rattle.std.proofs.Common.{◌≡◌, ℕ, zero, suc, inl, inr, ◌+◌, ◌-◌, ◌<◌, ◌≤◌, List, [], ◌∷◌, ◌++◌, length, refl, ap, sym, ◌∙◌, arith, subst, append_assoc, length-append, Bool, true, false, Err, Ok, Some, if◌then◌else◌, map, slice_get, Option, Result}
use Rattle.duct_run.proofs.Common.{append-nil, nil_from_length, EntryView, Spawn, JournalView, GivesEnds, IsRefused, count_of, spent_by, origin, SpecView, child_by, end_of, ends_of, stream_of, trace, Error, System, Port, Fault, Stdio, Inherit, Null, End, Scope, State, PerStream, stack_after_ports, port_end_count, surroundings_by, IsAsked, origin_to, StoppedBy, Allows, Refuses, HooksChange, HooksStop, SpecWithStreams, hooks_by_origin, AreAlike, StopsAmongHooks, IsAlike, StoppedWithCause, HooksInvariant, stack_with_streams, resources_with_stack, asks_canonical_path, hooks_by_target, after_canonical_path, program_in, streams_in, port_streams, with_stack, IsAskedAt, IsSpawnedBy, pairs_in, program_at, text_in, Surroundings, Target, Parents, Nothing, ReaderAt, WriterAt, FileAt, Lends, ResourcesView, ends_of_pipes, Plan, with_item, program_of, IsGivenFrom, Pairwise, RunContext, GivesUnder, IsEarly, IsFrom, IsHookError, IsLater, HasOrigins, RunInvariant, StopInvariant, hooked, Item, AskCanonicalize, AskSpawn, count-append, trace-append}
use Rattle.duct_system.specs.declared.error.Error.TheVariants as error
use Rattle.duct_system.specs.declared.spec.Stream.TheVariants as stream
use Rattle.duct_run.specs.Actions as action
use Rattle.duct_run.proofs.Chained.{chain_as, chain_stops_as, lends_lent, wired_as}
use Rattle.duct_run.proofs.Changing.{alike_long, handed_long}
use Rattle.duct_run.proofs.Fresh.{fresh_none}
use Rattle.duct_run.proofs.Going.{adds_as}
use Rattle.duct_run.proofs.Sources.{known, pair_first, pair_second}
use Rattle.duct_run.proofs.Stacks.{get_seam}
use Rattle.duct_run.proofs.RunInvariant.{Changes, as_many, answers_front, few_of, sources_now, invariant_more, stops_more, stops_unasked}
use Rattle.duct_run.proofs.Wires.{origin_of, streams_taken}

-- the elements of a prefix keep their indices
get_within : {A : Type 0} (xs ys : List A) (n : ℕ) → n < length xs
    → slice_get (xs ++ ys) n ≡ slice_get xs n
get_within [] ys n low = absurd (omega (arith, low))
get_within (x ∷ xs) ys zero low = refl
get_within (x ∷ xs) ys (suc n) low = get_within xs ys n (omega (arith, low))

-- a run in which these entries were added first
abbrev pub onwards : RunContext → List EntryView → RunContext
onwards context front = record context { front = front }

module _ {E H : Type 0} (allows : Allows H) (number_of : E → ℕ) (context : RunContext) (front : List EntryView) where
  later_as : (next : ℕ) (more : List EntryView) → IsLater context next more
      → IsLater (onwards context front) next more
  later_as next more later = record { fresh = later.fresh }

  later_back : (next : ℕ) (more : List EntryView) → IsLater (onwards context front) next more
      → IsLater context next more
  later_back next more later = record { fresh = later.fresh }

  pub invariant_onwards : (state : State E H) (now : JournalView) (held : ResourcesView)
      (invariant : RunInvariant allows number_of context state now held) → invariant.added ≡ front
      → RunInvariant allows number_of (onwards context front) state now held
  invariant_onwards state now held invariant is = record {
    added = invariant.added;
    ledger = invariant.ledger;
    few = invariant.few;
    kinds = invariant.kinds;
    shaped = invariant.shaped;
    begins = invariant.begins;
    starts = ([], is ∙ sym (append-nil front));
    answers = λ more later. invariant.answers more (later_back now.next more later);
    sources = λ more later. invariant.sources more (later_back now.next more later);
    clean = invariant.clean;
  }

  module _ (from : (later : List EntryView) × (front ≡ context.front ++ later)) where
    begins_back : (added later : List EntryView) → added ≡ front ++ later
        → (l : List EntryView) × (added ≡ context.front ++ l)
    begins_back added later is = (from.0 ++ later, is ∙ ap (λ l. l ++ later) from.1 ∙ append_assoc context.front from.0 later)

    pub invariant_back : (state : State E H) (now : JournalView) (held : ResourcesView)
        → RunInvariant allows number_of (onwards context front) state now held
        → RunInvariant allows number_of context state now held
    invariant_back state now held invariant = record {
      added = invariant.added;
      ledger = invariant.ledger;
      few = invariant.few;
      kinds = invariant.kinds;
      shaped = invariant.shaped;
      begins = invariant.begins;
      starts = begins_back invariant.added invariant.starts.0 invariant.starts.1;
      answers = λ more later. invariant.answers more (later_as now.next more later);
      sources = λ more later. invariant.sources more (later_as now.next more later);
      clean = invariant.clean;
    }

  pub stopped_back : (items : List (Item E H)) (now : JournalView) (held : ResourcesView) (e : Error)
      → StopInvariant allows number_of (onwards context front) items now held e
      → StopInvariant allows number_of context items now held e
  stopped_back items now held e stopped = record {
    added = stopped.added;
    ledger = stopped.ledger;
    few = stopped.few;
    answers = λ more later. stopped.answers more (later_as now.next more later);
    ended = stopped.ended;
  }

module _ {E : Type 0} (early : Type 0) (number_of : E → ℕ) where
  some_any : (L other : List EntryView) (n : ℕ) (t : Target E) → IsFrom early number_of L n t
      → Some (origin_of other number_of t) ≡ origin_to other number_of t
  some_any L other n (Parents stream.In) is = absurd is
  some_any L other n (Parents stream.Out) is = refl
  some_any L other n (Parents stream.Err) is = refl
  some_any L other n Nothing is = absurd is
  some_any L other n (ReaderAt place) is = refl
  some_any L other n (WriterAt place) is = refl
  some_any L other n (FileAt place) is = refl
  some_any L other n (Lends end) is = refl

  -- ends that have an origin by one trace have an origin by any trace
  origins_any : (L other : List EntryView) (numbers : List ℕ) (stack : List (Target E))
      → Pairwise (IsFrom early number_of L) numbers stack →
      map (λ o. Some o) (map (origin_of other number_of) stack) ≡ map (origin_to other number_of) stack
  origins_any L other [] [] is = refl
  origins_any L other (n ∷ numbers) [] is = absurd is
  origins_any L other [] (t ∷ stack) is = absurd is
  origins_any L other (n ∷ numbers) (t ∷ stack) is = λ i. some_any L other n t is.0 i ∷ origins_any L other numbers stack is.1 i

  -- a stream comes from where it should
  alike_origin : (L : List EntryView) (s : Stdio ℕ) (t : Stdio (Target E)) → IsAlike s t
      → Pairwise (IsFrom early number_of L) (end_of s) (end_of t)
      → IsGivenFrom L s (stream_of (origin_of (trace L) number_of) t)
      × (early → stream_of (origin L) s ≡ stream_of (origin_of (trace L) number_of) t)
  alike_origin L Inherit Inherit alike is = (tt, λ e. refl)
  alike_origin L Inherit Null alike is = absurd alike
  alike_origin L Inherit (End t) alike is = absurd alike
  alike_origin L Null Inherit alike is = absurd alike
  alike_origin L Null Null alike is = (tt, λ e. refl)
  alike_origin L Null (End t) alike is = absurd alike
  alike_origin L (End n) Inherit alike is = absurd alike
  alike_origin L (End n) Null alike is = absurd alike
  alike_origin L (End n) (End t) alike is = let there = known early L n (origin_to (trace L) number_of t) is.0 in (there.0, λ e. ap End (there.1 e))

  -- three streams, and the ends below them, come from where they should
  pub alike_origins : (L : List EntryView) (s : PerStream (Stdio ℕ)) (t : PerStream (Stdio (Target E)))
      (numbers : List ℕ) (targets : List (Target E)) → AreAlike s t
      → Pairwise (IsFrom early number_of L) (stack_with_streams s numbers) (stack_with_streams t targets)
      → GivesUnder early L (s.input ∷ s.output ∷ s.error ∷ [])
      (map (stream_of (origin_of (trace L) number_of)) (t.input ∷ t.output ∷ t.error ∷ []))
      × Pairwise (IsFrom early number_of L) numbers targets
  alike_origins L s t numbers targets alike is =
      let R = IsFrom early number_of L in
      let e = alike_origin L s.error t.error alike.error (pair_first R (end_of s.error) _ (end_of t.error) _ (alike_long s.error t.error alike.error) is) in
      let one = pair_second R (end_of s.error) _ (end_of t.error) _ (alike_long s.error t.error alike.error) is in
      let o = alike_origin L s.output t.output alike.output (pair_first R (end_of s.output) _ (end_of t.output) _ (alike_long s.output t.output alike.output) one) in
      let two = pair_second R (end_of s.output) _ (end_of t.output) _ (alike_long s.output t.output alike.output) one in
      let i = alike_origin L s.input t.input alike.input (pair_first R (end_of s.input) numbers (end_of t.input) targets (alike_long s.input t.input alike.input) two) in
      (((i.0, (o.0, (e.0, tt))), λ early. λ j. i.1 early j ∷ o.1 early j ∷ e.1 early j ∷ []), pair_second R (end_of s.input) numbers (end_of t.input) targets (alike_long s.input t.input alike.input) two)

-- what the entry of a spawn changes in what is held
spawn_changes : (spec : SpecView) (s : PerStream (Stdio ℕ)) (answer : Result ℕ Fault) (count : ℕ)
    (now next : JournalView) (low : ResourcesView) (children : List ℕ) →
    let entry = Spawn spec (s.input ∷ s.output ∷ s.error ∷ []) answer in
    GivesEnds entry count now next → count ≡ length (spent_by entry) → children ≡ low.children ++ child_by entry →
    Changes entry now next (resources_with_stack (stack_with_streams s low.stack) low) (record low { children = children })
spawn_changes spec s answer count now next low children gives port_end_count started =
    let entry = Spawn spec (s.input ∷ s.output ∷ s.error ∷ []) answer in
    let pairs = ends_of_pipes low.pipes in
    let i = end_of s.input in
    let o = end_of s.output in
    let e = end_of s.error in
    record {
      adds = adds_as entry 0 count 0 (length (spent_by entry)) now next gives refl (sym port_end_count);
      fresh = fresh_none now.next next.next gives.next_grows;
      even = λ n. omega (arith, count-append n (stack_with_streams s low.stack) pairs, count-append n low.stack pairs, count-append n e (o ++ (i ++ low.stack)), count-append n o (i ++ low.stack), count-append n i low.stack, count-append n i (o ++ (e ++ [])), count-append n o (e ++ []), ap (λ l. count_of n l) (append-nil e));
      long = omega (arith, length-append (stack_with_streams s low.stack) pairs, length-append low.stack pairs, length-append e (o ++ (i ++ low.stack)), length-append o (i ++ low.stack), length-append i low.stack, length-append i (o ++ (e ++ [])), length-append o (e ++ []), ap (λ l. length l) (append-nil e));
      children_are = started;
      feeds_are = sym (append-nil low.feeds);
      drains_are = sym (append-nil low.drains);
    }

-- the program that is read at the place of the spawn is the one that is read at the end of the
-- trace before it
program_there : (b : Bool) (entries rest : List EntryView) (words : List (List ℕ)) (place : ℕ)
    → length entries ≡ place → (b ≡ true → 0 < place) →
    (if b then text_in (slice_get (entries ++ rest) (place - 1)) else program_of words) ≡ program_in b entries words
program_there false entries rest words place port_end_count positive = refl
program_there true entries rest words place port_end_count positive =
    let within : place - 1 < length entries = omega (arith, port_end_count, positive refl) in
    ap (λ o. text_in o) (get_within entries rest (place - 1) within) ∙ ap (λ n. text_in (slice_get entries (n - 1))) (sym port_end_count)

named_positive : {E H : Type 0} (b : Bool) (p : Plan E H) (item : Item E H) → b ≡ true
    → 0 < length (if b then with_item item p else p).items
named_positive false p item is = absurd (cc)
named_positive true p item is = omega (arith, length-append p.items (item ∷ []))

-- three streams without an end add nothing to a stack
none_handed : {A : Type 0} (s : PerStream (Stdio A)) (rest : List A)
    → length (ends_of (s.input ∷ s.output ∷ s.error ∷ [])) ≡ 0 → stack_with_streams s rest ≡ rest
none_handed s rest none =
    let i = end_of s.input in
    let o = end_of s.output in
    let e = end_of s.error in
    let long = length-append i (o ++ (e ++ [])) in
    let more = length-append o (e ++ []) in
    let last = length-append e [] in
    let ni : i ≡ [] = nil_from_length i (omega (arith, none, long)) in
    let no : o ≡ [] = nil_from_length o (omega (arith, none, long, more)) in
    let ne : e ≡ [] = nil_from_length e (omega (arith, none, long, more, last)) in
    λ j. ne j ++ (no j ++ (ni j ++ rest))

-- a stopped run, with more items that were not reached
unfoldable pub stopped_front : {E H : Type 0} (allows : Allows H) (number_of : E → ℕ)
    (context : RunContext) (items more : List (Item E H)) (now : JournalView) (held : ResourcesView)
    (e : Error) → StopInvariant allows number_of context items now held e
    → StopInvariant allows number_of context (items ++ more) now held e
stopped_front allows number_of context items more now held e stopped = record {
  added = stopped.added;
  ledger = stopped.ledger;
  few = stopped.few;
  answers = λ l later. answers_front (GivesUnder (IsEarly context) (stopped.added ++ l)) allows number_of (stopped.added ++ l) 0 items more (trace stopped.added) (stopped.answers l later);
  ended = stopped.ended;
}

-- a run that stopped with an error that is not a hook's
pub plain_refused : {E H : Type 0} (allows : Allows H) (refuses : Refuses H) (number_of : E → ℕ)
    (context : RunContext) (items : List (Item E H)) (now : JournalView) (held : ResourcesView) (e : Error)
    → (IsHookError e → ⊥) → StopInvariant allows number_of context items now held e
    → StoppedWithCause allows refuses number_of context items now held e
plain_refused allows refuses number_of context items now held e plain stopped = record { stopped = stopped; cause = λ is. absurd (plain is) }

-- the error that stops a chain is a hook's
chain_hooks : {H O : Type 0} (allows : Allows H) (refuses : Refuses H) (hooks : List (H × List O))
    (before : SpecWithStreams O) (e : Error) → HooksStop allows refuses hooks before e → IsHookError e
chain_hooks allows refuses [] before e stops = absurd stops
chain_hooks allows refuses (hook ∷ hooks) before (error.Hook fault) stops = tt
chain_hooks allows refuses (hook ∷ hooks) before (error.HookEnd place) stops = tt
chain_hooks allows refuses (hook ∷ hooks) before e (inl stops) = absurd stops
chain_hooks allows refuses (hook ∷ hooks) before e (inr rest) = chain_hooks allows refuses hooks rest.0 e rest.2

module _ {E H : Type 0} (allows : Allows H) (number_of : E → ℕ) (context : RunContext) (scope : Scope E H) (words : List (List ℕ)) (ports : PerStream Port) (state : State E H) (held : ResourcesView)
    (asked : SpecView) (program : List ℕ) (front : List EntryView) (full : port_end_count ports.input + (port_end_count ports.output + port_end_count ports.error) ≤ length state.stack)
    (can : action.CanSpawn number_of context.base context.bound state.stack scope ports) (asked_is : IsAsked context.pairs program (surroundings_by scope ports state.stack) words asked)
    (long_is : length (trace front) ≡ length (after_canonical_path scope words state).plan.items) (named_is : program_in (asks_canonical_path scope words) (trace front) words ≡ program)
    (tops : (L : List EntryView) × (numbers : List ℕ) × Pairwise (IsFrom (IsEarly context) number_of L) numbers state.stack) where
  abbrev found : Surroundings E H
  found = surroundings_by scope ports state.stack

  abbrev pub before : SpecWithStreams (Target E)
  before =
      let t = port_streams ports state.stack in
      record { spec = asked; input = t.input; output = t.output; error = t.error }

  -- the state, and what is held, below the ends of the command
  abbrev pub below : State E H
  below = with_stack (stack_after_ports ports state.stack) (after_canonical_path scope words state)

  abbrev pub low : ResourcesView
  low = resources_with_stack (stack_after_ports ports held.stack) held

  asked_at : (L rest : List EntryView) → trace L ≡ trace front ++ rest
      → pairs_in (trace L) ≡ context.pairs →
      IsAskedAt (trace L) number_of (length (after_canonical_path scope words state).plan.items) found words (wired_as (origin_of (trace L) number_of) before)
  asked_at L rest is pairs =
      let entries = trace L in
      let place = length (after_canonical_path scope words state).plan.items in
      let there : program_at entries place found words ≡ program =
      ap (λ l. program_at l place found words) is
      ∙ program_there (asks_canonical_path scope words) (trace front) rest words place long_is (named_positive (asks_canonical_path scope words) state.plan (AskCanonicalize (program_of words))) ∙ named_is in
      let spec : IsAsked (pairs_in entries) (program_at entries place found words) found words asked =
      subst (λ ps. IsAsked ps (program_at entries place found words) found words asked) (sym pairs) (subst (λ p. IsAsked context.pairs p found words asked) (sym there) asked_is) in
      record { spec_is = spec; streams_are = streams_taken entries number_of scope ports state.stack full can.ports_are (origins_any (IsEarly context) number_of tops.0 entries tops.1 state.stack tops.2) }

  -- a command after all of its hooks
  module _ (now next : JournalView) (spec : SpecView) (s : PerStream (Stdio ℕ)) (staged : HooksInvariant allows number_of (onwards context front) below low before scope.hooks now spec s) where
    abbrev entry : Result ℕ Fault → EntryView
    entry answer = Spawn spec (s.input ∷ s.output ∷ s.error ∷ []) answer

    abbrev handed_now : ResourcesView
    handed_now = resources_with_stack (stack_with_streams s low.stack) low

    abbrev begins_with : State E H
    begins_with = with_stack (stack_with_streams (streams_in staged.wired) below.stack) below

    abbrev ends_with : State E H
    ends_with = action.advance state (action.spawn scope words ports)

    module _ (answer : Result ℕ Fault) (kept : ResourcesView) (ch : Changes (entry answer) now next handed_now kept) (more : List EntryView) (later : IsLater (onwards context front) next.next more) where
      abbrev whole : List EntryView
      whole = (staged.invariant.added ++ entry answer ∷ []) ++ more

      sourced : HasOrigins (IsEarly context) number_of whole begins_with handed_now
      sourced = sources_now allows number_of (onwards context front) begins_with ends_with (AskSpawn found words ∷ []) now next handed_now kept (entry answer) staged.invariant refl ch more later

      origins : GivesUnder (IsEarly context) whole (s.input ∷ s.output ∷ s.error ∷ [])
          (map (stream_of (origin_of (trace whole) number_of))
          (staged.wired.input ∷ staged.wired.output ∷ staged.wired.error ∷ []))
          × Pairwise (IsFrom (IsEarly context) number_of whole) low.stack below.stack
      origins = alike_origins (IsEarly context) number_of whole s (streams_in staged.wired) low.stack below.stack staged.alike sourced.stack

      given_there : IsSpawnedBy
          (λ wanted. GivesUnder (IsEarly context) whole (s.input ∷ s.output ∷ s.error ∷ []) wanted)
          allows number_of (trace whole) (length below.plan.items) found words spec
      given_there =
          let rest = staged.invariant.starts.0 ++ entry answer ∷ more in
          let split : whole ≡ front ++ rest =
          append_assoc staged.invariant.added (entry answer ∷ []) more ∙ ap (λ l. l ++ entry answer ∷ more) staged.invariant.starts.1 ∙ append_assoc front staged.invariant.starts.0 (entry answer ∷ more) in
          let traced : trace whole ≡ trace front ++ trace rest = ap (λ l. trace l) split ∙ trace-append front rest in
          let pairs : pairs_in (trace whole) ≡ context.pairs = ap (λ l. pairs_in (trace l)) (append_assoc staged.invariant.added (entry answer ∷ []) more) ∙ staged.invariant.begins (entry answer ∷ more) in
          let f = origin_of (trace whole) number_of in
          let chain : HooksChange allows (hooks_by_origin number_of scope.hooks) (wired_as f before) (wired_as f staged.wired) =
          subst (λ l. HooksChange allows l (wired_as f before) (wired_as f staged.wired)) (lends_lent (trace whole) number_of scope.hooks) (chain_as f allows (hooks_by_target scope.hooks) before staged.wired staged.chain) in
          (wired_as f before, wired_as f staged.wired, asked_at whole (trace rest) traced pairs, chain, sym staged.spec_is, origins.0)

    low_few : length low.stack + 3 < context.bound
    low_few =
        omega (
          arith,
          can.place,
          staged.invariant.shaped.stack,
          handed_long s low.stack,
          handed_long (streams_in staged.wired) below.stack,
          alike_long s.input staged.wired.input staged.alike.input,
          alike_long s.output staged.wired.output staged.alike.output,
          alike_long s.error staged.wired.error staged.alike.error,
        )

    low_long : length low.stack ≡ length below.stack
    low_long =
        omega (
          arith,
          staged.invariant.shaped.stack,
          handed_long s low.stack,
          handed_long (streams_in staged.wired) below.stack,
          alike_long s.input staged.wired.input staged.alike.input,
          alike_long s.output staged.wired.output staged.alike.output,
          alike_long s.error staged.wired.error staged.alike.error,
        )

    -- the child was started
    pub spawn_succeeds : (number count : ℕ) → GivesEnds (entry (Ok number)) count now next
        → count ≡ length (spent_by (entry (Ok number)))
        → RunInvariant allows number_of (onwards context front) ends_with next
        (record low { children = held.children ++ number ∷ [] })
    spawn_succeeds number count gives port_end_count =
        let kept : ResourcesView = record low { children = held.children ++ number ∷ [] } in
        let ch = spawn_changes spec s (Ok number) count now next low kept.children gives port_end_count refl in
        invariant_more allows number_of (onwards context front) begins_with ends_with (AskSpawn found words ∷ []) now next handed_now kept (entry (Ok number)) staged.invariant refl ch
        (few_of context.bound kept (omega (arith, low_few))) (record { stack = low_long; pipes = staged.invariant.shaped.pipes }) refl refl
        (λ more later. (given_there (Ok number) kept ch more later, tt))
        (λ more later. let z = sourced (Ok number) kept ch more later in record { stack = (origins (Ok number) kept ch more later).1; pipes = z.pipes })

    -- the system refused the spawn
    pub spawn_fails : (fault : Fault) (count : ℕ)
        → IsRefused (entry (Err fault)) count fault now next
        → count ≡ length (spent_by (entry (Err fault)))
        → StopInvariant allows number_of (onwards context front) ends_with.plan.items next low (System fault)
    spawn_fails fault count (inl gives) port_end_count =
        let ch = spawn_changes spec s (Err fault) count now next low low.children gives port_end_count (sym (append-nil low.children)) in
        stops_more allows number_of (onwards context front) begins_with ends_with (AskSpawn found words ∷ []) now next handed_now low (entry (Err fault)) staged.invariant refl ch
        (few_of context.bound low (omega (arith, low_few))) fault refl (λ more later. (given_there (Err fault) low ch more later, tt))
    spawn_fails fault count (inr nothing) port_end_count =
        let none : length (spent_by (entry (Err fault))) ≡ 0 = sym port_end_count ∙ nothing.0 in
        let same : stack_with_streams s low.stack ≡ low.stack = none_handed s low.stack none in
        subst (λ (l : List ℕ). StopInvariant allows number_of (onwards context front) ends_with.plan.items next (resources_with_stack l low) (System fault)) same
        (stops_unasked allows number_of (onwards context front) begins_with ends_with.plan.items (AskSpawn found words ∷ []) now next handed_now (System fault) staged.invariant refl nothing.1 nothing.2)

  -- a hook stopped the command, or a request failed while its hooks ran
  pub halts_refused : (refuses : Refuses H)
      (from : (later : List EntryView) × (front ≡ context.front ++ later))
      (now : JournalView) (s : PerStream (Stdio ℕ)) (e : Error)
      → StopsAmongHooks allows refuses number_of (onwards context front) below low before scope.hooks now s e
      → StoppedWithCause allows refuses number_of context
      (action.advance state (action.spawn scope words ports)).plan.items now
      (resources_with_stack (stack_with_streams s low.stack) low) e
  unfolding stopped_front stopped_back
  halts_refused refuses from now s e (inl plain) = plain_refused allows refuses number_of context _ now (resources_with_stack (stack_with_streams s low.stack) low) e plain.0
      (stopped_front allows number_of context below.plan.items (AskSpawn found words ∷ []) now (resources_with_stack (stack_with_streams s low.stack) low) e (stopped_back allows number_of context front below.plan.items now (resources_with_stack (stack_with_streams s low.stack) low) e plain.1))
  halts_refused refuses from now s e (inr stopping) =
      let invariant = stopping.invariant in
      let items = below.plan.items ++ AskSpawn found words ∷ [] in
      let stopped : StopInvariant allows number_of context items now (resources_with_stack (stack_with_streams s low.stack) low) e =
      stopped_front allows number_of context below.plan.items (AskSpawn found words ∷ []) now (resources_with_stack (stack_with_streams s low.stack) low) e
      (stopped_back allows number_of context front below.plan.items now (resources_with_stack (stack_with_streams s low.stack) low) e (record {
        added = invariant.added;
        ledger = invariant.ledger;
        few = invariant.few;
        answers = invariant.answers;
        ended = hooked {added = invariant.added} {error = e} invariant.clean (chain_hooks allows refuses (hooks_by_target scope.hooks) before e stopping.stops);
      })) in
      record {
        stopped = stopped;
        cause = λ is more later.
            let entries = trace (invariant.added ++ more) in
            let rest = invariant.starts.0 ++ more in
            let traced : entries ≡ trace front ++ trace rest = ap (λ l. trace (l ++ more)) invariant.starts.1 ∙ ap (λ l. trace l) (append_assoc front invariant.starts.0 more) ∙ trace-append front rest in
            let f = origin_of entries number_of in
            let stops : HooksStop allows refuses (hooks_by_origin number_of scope.hooks) (wired_as f before) e =
            subst (λ l. HooksStop allows refuses l (wired_as f before) e) (lends_lent entries number_of scope.hooks) (chain_stops_as f allows refuses (hooks_by_target scope.hooks) before e stopping.stops) in
            let there : StoppedBy allows refuses number_of entries (length below.plan.items) (Some (AskSpawn found words)) e =
            (wired_as f before, asked_at (invariant.added ++ more) (trace rest) traced (invariant.begins more), stops) in
            subst (λ n. StoppedBy allows refuses number_of entries n (slice_get items n) e) (sym (as_many invariant))
            (subst (λ (o : Option (Item E H)). StoppedBy allows refuses number_of entries (length below.plan.items) o e) (sym (get_seam below.plan.items (AskSpawn found words))) there);
      }

-- The hooks of a command, one after the other.
use Rattle.std.proofs.Common.{◌≡◌, ℕ, inl, inr, ◌+◌, ◌<◌, ◌≤◌, List, [], ◌∷◌, ◌++◌, length, refl, ap, sym, ◌∙◌, arith, subst, append_assoc, length-append, All, None, Some, map}
use Rattle.duct_run.proofs.Common.{append-nil, length-map, map-append, All-head, JournalView, SpecView, end_of, Error, Hook, HookEnd, Port, Fault, Stdio, Inherit, Null, End, AreBelow, State, PerStream, Allows, Refuses, HooksChange, HooksStop, HookChanges, HookMakes, HookStops, SpecWithStreams, resolved_port, missing_place, after_hook, stream_after_hook, HooksSucceed, AreAlike, HooksFail, StopsAmongHooks, StoppedByHook, IsAlike, RedirectSucceeds, HooksInvariant, FailsWithoutHook, RedirectFails, stack_with_streams, resources_with_stack, hooks_by_target, streams_in, with_stack, with_error, with_input, with_output, Target, Lends, ResourcesView, RunContext, RunInvariant}
use Rattle.duct_run.proofs.Joined.{all_front, all_back}

few_ends : {A : Type 0} (stream : Stdio A) → length (end_of stream) ≤ 1
few_ends Inherit = omega arith
few_ends Null = omega arith
few_ends (End e) = omega arith

pub alike_long : {E : Type 0} (stream : Stdio ℕ) (target : Stdio (Target E))
    → IsAlike stream target → length (end_of stream) ≡ length (end_of target)
alike_long Inherit Inherit alike = refl
alike_long Inherit Null alike = absurd alike
alike_long Inherit (End t) alike = absurd alike
alike_long Null Inherit alike = absurd alike
alike_long Null Null alike = refl
alike_long Null (End t) alike = absurd alike
alike_long (End n) Inherit alike = absurd alike
alike_long (End n) Null alike = absurd alike
alike_long (End n) (End t) alike = refl

pub handed_long : {A : Type 0} (s : PerStream (Stdio A)) (rest : List A) → length (stack_with_streams s rest)
    ≡ length (end_of s.error) + (length (end_of s.output) + (length (end_of s.input) + length rest))
handed_long s rest =
    omega (arith, length-append (end_of s.error) (end_of s.output ++ (end_of s.input ++ rest)), length-append (end_of s.output) (end_of s.input ++ rest), length-append (end_of s.input) rest)

-- a stack with three streams pushed onto it is below the bound
pub handed_few : {A : Type 0} (s : PerStream (Stdio A)) (rest : List A) (bound : ℕ)
    → length rest + 3 < bound → length (stack_with_streams s rest) < bound
handed_few s rest bound low = omega (arith, handed_long s rest, few_ends s.error, few_ends s.output, few_ends s.input, low)

module _ {E H : Type 0} (allows : Allows H) (number_of : E → ℕ) (context : RunContext) (state : State E H) (held : ResourcesView) (ends : List E) (below : All (λ end. number_of end < context.base) ends)
    (low : length state.stack + 3 < context.bound) where
  abbrev InvariantBy : PerStream (Stdio ℕ) → PerStream (Stdio (Target E)) → JournalView → Type 0
  InvariantBy s t now = RunInvariant allows number_of context (with_stack (stack_with_streams t state.stack) state) now (resources_with_stack (stack_with_streams s held.stack) held)

  -- each of the three streams is changed at its position on the stack
  pub input_redirected : (s : PerStream (Stdio ℕ)) (t : PerStream (Stdio (Target E))) (p : Port)
      (new : Stdio ℕ) (now then : JournalView) → AreAlike s t
      → RedirectSucceeds {E = E} {H = H} allows number_of ends p now then s.input new
      → InvariantBy s t now → let turned = with_input (stream_after_hook (map Lends ends) p t.input) t in
      AreAlike (with_input new s) turned × InvariantBy (with_input new s) turned then
  input_redirected s t p new now then alike redirects invariant =
      let over = end_of s.error ++ end_of s.output in
      let above = end_of t.error ++ end_of t.output in
      let same : length over ≡ length above = omega (arith, length-append (end_of s.error) (end_of s.output), length-append (end_of t.error) (end_of t.output), alike_long s.error t.error alike.error, alike_long s.output t.output alike.output) in
      let numbers = λ (x : Stdio ℕ). append_assoc (end_of s.error) (end_of s.output) (end_of x ++ held.stack) in
      let targets = λ (x : Stdio (Target E)). append_assoc (end_of t.error) (end_of t.output) (end_of x ++ state.stack) in
      let few : length (above ++ (end_of t.input ++ state.stack)) < context.bound = omega (arith, ap (λ l. length l) (targets t.input), handed_few t state.stack context.bound low) in
      let first : RunInvariant allows number_of context (with_stack (above ++ (end_of t.input ++ state.stack)) state) now (resources_with_stack (over ++ (end_of s.input ++ held.stack)) held) =
      subst (λ l. RunInvariant allows number_of context (with_stack l state) now (resources_with_stack (over ++ (end_of s.input ++ held.stack)) held)) (sym (targets t.input))
      (subst (λ l. RunInvariant allows number_of context (with_stack (stack_with_streams t state.stack) state) now (resources_with_stack l held)) (sym (numbers s.input)) invariant) in
      let done = redirects context state held over held.stack above state.stack t.input alike.input same below few first in
      let to = stream_after_hook (map Lends ends) p t.input in (
        record { input = done.0; output = alike.output; error = alike.error },
        subst (λ l. RunInvariant allows number_of context (with_stack (stack_with_streams (with_input to t) state.stack) state) then (resources_with_stack l held)) (numbers new)
            (subst (λ l. RunInvariant allows number_of context (with_stack l state) then (resources_with_stack (over ++ (end_of new ++ held.stack)) held)) (targets to) done.1),
      )

  pub output_redirected : (s : PerStream (Stdio ℕ)) (t : PerStream (Stdio (Target E))) (p : Port)
      (new : Stdio ℕ) (now then : JournalView) → AreAlike s t
      → RedirectSucceeds {E = E} {H = H} allows number_of ends p now then s.output new
      → InvariantBy s t now → let turned = with_output (stream_after_hook (map Lends ends) p t.output) t in
      AreAlike (with_output new s) turned × InvariantBy (with_output new s) turned then
  output_redirected s t p new now then alike redirects invariant =
      let done = redirects context state held (end_of s.error) (end_of s.input ++ held.stack) (end_of t.error) (end_of t.input ++ state.stack) t.output alike.output (alike_long s.error t.error alike.error) below
      (handed_few t state.stack context.bound low) invariant in
      (record { input = alike.input; output = done.0; error = alike.error }, done.1)

  pub error_redirected : (s : PerStream (Stdio ℕ)) (t : PerStream (Stdio (Target E))) (p : Port)
      (new : Stdio ℕ) (now then : JournalView) → AreAlike s t
      → RedirectSucceeds {E = E} {H = H} allows number_of ends p now then s.error new
      → InvariantBy s t now → let turned = with_error (stream_after_hook (map Lends ends) p t.error) t in
      AreAlike (with_error new s) turned × InvariantBy (with_error new s) turned then
  error_redirected s t p new now then alike redirects invariant =
      let done = redirects context state held [] (end_of s.output ++ (end_of s.input ++ held.stack)) [] (end_of t.output ++ (end_of t.input ++ state.stack)) t.error alike.error refl below
      (handed_few t state.stack context.bound low) invariant in
      (record { input = alike.input; output = alike.output; error = done.0 }, done.1)

  -- a stream that could not be changed
  pub stream_unredirected : (s : PerStream (Stdio ℕ)) (t : PerStream (Stdio (Target E)))
      (now then : JournalView) (error : Error)
      → RedirectFails {E = E} {H = H} allows number_of ends now then error → InvariantBy s t now
      → FailsWithoutHook allows number_of context state then (resources_with_stack (stack_with_streams s held.stack) held) error
  stream_unredirected s t now then error unredirected invariant =
      unredirected context state held (stack_with_streams s held.stack) (stack_with_streams t state.stack) below (handed_few t state.stack context.bound low) invariant

module _ {H O : Type 0} (allows : Allows H) where
  -- a chain with one more hook
  pub chain_more : (hooks : List (H × List O)) (hook : H) (ends : List O)
      (before between after : SpecWithStreams O) → HooksChange allows hooks before between
      → HookChanges allows hook ends between after → HooksChange allows (hooks ++ (hook, ends) ∷ []) before after
  chain_more [] hook ends before between after chain changes = (after, subst (λ (w : SpecWithStreams O). HookChanges allows hook ends w after) chain changes, refl)
  chain_more (x ∷ hooks) hook ends before between after chain changes = (chain.0, chain.1, chain_more hooks hook ends chain.0 between after chain.2 changes)

  -- a chain with one more hook, which stops the start
  pub chain_stops : (refuses : Refuses H) (hooks : List (H × List O)) (hook : H) (ends : List O)
      (before between : SpecWithStreams O) (error : Error) → HooksChange allows hooks before between
      → HookStops allows refuses hook ends between error
      → HooksStop allows refuses (hooks ++ (hook, ends) ∷ []) before error
  chain_stops refuses [] hook ends before between error chain stops = inl (subst (λ (w : SpecWithStreams O). HookStops allows refuses hook ends w error) chain stops)
  chain_stops refuses (x ∷ hooks) hook ends before between error chain stops = inr (chain.0, chain.1, chain_stops refuses hooks hook ends chain.0 between error chain.2 stops)

  -- a chain that stops the start, with more hooks after it
  pub stops_front : (refuses : Refuses H) (hooks more : List (H × List O)) (before : SpecWithStreams O)
      (error : Error) → HooksStop allows refuses hooks before error
      → HooksStop allows refuses (hooks ++ more) before error
  stops_front refuses [] more before error stops = absurd stops
  stops_front refuses (x ∷ hooks) more before error (inl stops) = inl stops
  stops_front refuses (x ∷ hooks) more before error (inr rest) = inr (rest.0, rest.1, stops_front refuses hooks more rest.0 error rest.2)

hooks_by_target-append : {E H : Type 0} (hooks more : List (H × List E))
    → hooks_by_target (hooks ++ more) ≡ hooks_by_target hooks ++ hooks_by_target more
hooks_by_target-append hooks more = map-append (λ hook. (hook.0, map Lends hook.1)) hooks more

module _ {E H : Type 0} (allows : Allows H) (number_of : E → ℕ) (context : RunContext) (state : State E H) (held : ResourcesView) (before : SpecWithStreams (Target E)) (hooks : List (H × List E)) (hook : H)
    (ends : List E) (low : length state.stack + 3 < context.bound) (below : AreBelow number_of context.base ((hook, ends) ∷ [])) (now : JournalView) (spec made : SpecView) (s : PerStream (Stdio ℕ))
    (staged : HooksInvariant allows number_of context state held before hooks now spec s) where
  lower : All (λ end. number_of end < context.base) ends
  lower = All-head (λ pair. All (λ end. number_of end < context.base) pair.1) (hook, ends) [] below

  -- one more hook has run: it has an end at each place in its spec, and each stream was changed
  pub staged_more : (i o e : Stdio ℕ) (one two then : JournalView)
      → HookMakes allows hook spec made → missing_place (length ends) made ≡ None
      → RedirectSucceeds {E = E} {H = H} allows number_of ends made.input now one s.input i
      → RedirectSucceeds {E = E} {H = H} allows number_of ends made.output one two s.output o
      → RedirectSucceeds {E = E} {H = H} allows number_of ends made.error two then s.error e
      → HooksInvariant allows number_of context state held before (hooks ++ (hook, ends) ∷ []) then
      (after_hook (map Lends ends) made staged.wired).spec (record { input = i; output = o; error = e })
  staged_more i o e one two then makes there input output error =
      let w = staged.wired in
      let lent = map Lends ends in
      let t = streams_in w in
      let first = input_redirected allows number_of context state held ends lower low s t made.input i now one staged.alike input staged.invariant in
      let ti = with_input (stream_after_hook lent made.input t.input) t in
      let second = output_redirected allows number_of context state held ends lower low (with_input i s) ti made.output o one two first.0 output first.1 in
      let to = with_output (stream_after_hook lent made.output t.output) ti in
      let third = error_redirected allows number_of context state held ends lower low (with_output o (with_input i s)) to made.error e two then second.0 error second.1 in
      let is : missing_place (length lent) made ≡ None = ap (λ n. missing_place n made) (length-map ends Lends) ∙ there in
      let changes : HookChanges allows hook lent w (after_hook lent made w) = (made, subst (λ (x : SpecView). HookMakes allows hook x made) (sym staged.spec_is) makes, is, refl) in
      record {
        wired = after_hook lent made w;
        spec_is = refl;
        alike = third.0;
        chain = subst (λ l. HooksChange allows l before (after_hook lent made w)) (sym (hooks_by_target-append hooks ((hook, ends) ∷ []))) (chain_more allows (hooks_by_target hooks) hook lent before w (after_hook lent made w) staged.chain changes);
        invariant = third.1;
      }

  -- the hook stopped the command
  pub hooked_by : (refuses : Refuses H) (error : Error)
      → HookStops allows refuses hook (map Lends ends) staged.wired error
      → StoppedByHook allows refuses number_of context state held before (hooks ++ (hook, ends) ∷ []) now s error
  hooked_by refuses error stops = record {
    targets = stack_with_streams (streams_in staged.wired) state.stack;
    invariant = staged.invariant;
    stops = subst (λ l. HooksStop allows refuses l before error) (sym (hooks_by_target-append hooks ((hook, ends) ∷ []))) (chain_stops allows refuses (hooks_by_target hooks) hook (map Lends ends) before staged.wired error staged.chain stops);
  }

-- the same, after any earlier hooks of a command
module _ {E H : Type 0} (allows : Allows H) (number_of : E → ℕ) (hook : H) (ends : List E) (spec made : SpecView) (s : PerStream (Stdio ℕ)) where
  pub alters_one : (i o e : Stdio ℕ) (now one two then : JournalView)
      → HookMakes allows hook spec made → missing_place (length ends) made ≡ None
      → RedirectSucceeds {E = E} {H = H} allows number_of ends made.input now one s.input i
      → RedirectSucceeds {E = E} {H = H} allows number_of ends made.output one two s.output o
      → RedirectSucceeds {E = E} {H = H} allows number_of ends made.error two then s.error e
      → HooksSucceed allows number_of ((hook, ends) ∷ []) now then spec
      (record made { input = resolved_port made.input; output = resolved_port made.output; error = resolved_port made.error })
      s (record { input = i; output = o; error = e })
  alters_one i o e now one two then makes there input output error = λ context state held before hooks low below staged.
      staged_more allows number_of context state held before hooks hook ends low below now spec made s staged i o e one two then makes there input output error

  module _ (refuses : Refuses H) where
    pub breaks_fault : (now : JournalView) (fault : Fault) → refuses hook spec fault
        → HooksFail allows refuses number_of ((hook, ends) ∷ []) now now spec s s (Hook fault)
    breaks_fault now fault refused = λ context state held before hooks low below staged.
        inr (hooked_by allows number_of context state held before hooks hook ends low below now spec made s staged refuses (Hook fault)
        (subst (λ (x : SpecView). refuses hook x fault) (sym staged.spec_is) refused))

    pub breaks_end : (now : JournalView) (place : ℕ) → HookMakes allows hook spec made
        → missing_place (length ends) made ≡ Some place
        → HooksFail allows refuses number_of ((hook, ends) ∷ []) now now spec s s (HookEnd place)
    breaks_end now place makes none = λ context state held before hooks low below staged.
        inr (hooked_by allows number_of context state held before hooks hook ends low below now spec made s staged refuses (HookEnd place)
        (made, subst (λ (x : SpecView). HookMakes allows hook x made) (sym staged.spec_is) makes, ap (λ n. missing_place n made) (length-map ends Lends) ∙ none))

    pub breaks_input : (error : Error) (now then : JournalView)
        → RedirectFails {E = E} {H = H} allows number_of ends now then error
        → HooksFail allows refuses number_of ((hook, ends) ∷ []) now then spec s s error
    breaks_input error now then unredirected = λ context state held before hooks low below staged.
        let lower = All-head (λ pair. All (λ end. number_of end < context.base) pair.1) (hook, ends) [] below in
        inl (stream_unredirected allows number_of context state held ends lower low s (streams_in staged.wired) now then error unredirected staged.invariant)

    pub breaks_output : (error : Error) (i : Stdio ℕ) (now one then : JournalView)
        → RedirectSucceeds {E = E} {H = H} allows number_of ends made.input now one s.input i
        → RedirectFails {E = E} {H = H} allows number_of ends one then error
        → HooksFail allows refuses number_of ((hook, ends) ∷ []) now then spec s (with_input i s) error
    breaks_output error i now one then input unredirected = λ context state held before hooks low below staged.
        let lower = All-head (λ pair. All (λ end. number_of end < context.base) pair.1) (hook, ends) [] below in
        let t = streams_in staged.wired in
        let first = input_redirected allows number_of context state held ends lower low s t made.input i now one staged.alike input staged.invariant in
        inl (stream_unredirected allows number_of context state held ends lower low (with_input i s) (with_input (stream_after_hook (map Lends ends) made.input t.input) t) one then error unredirected first.1)

    pub breaks_error : (error : Error) (i o : Stdio ℕ) (now one two then : JournalView)
        → RedirectSucceeds {E = E} {H = H} allows number_of ends made.input now one s.input i
        → RedirectSucceeds {E = E} {H = H} allows number_of ends made.output one two s.output o
        → RedirectFails {E = E} {H = H} allows number_of ends two then error
        → HooksFail allows refuses number_of ((hook, ends) ∷ []) now then spec s
        (with_output o (with_input i s)) error
    breaks_error error i o now one two then input output unredirected = λ context state held before hooks low below staged.
        let lower = All-head (λ pair. All (λ end. number_of end < context.base) pair.1) (hook, ends) [] below in
        let t = streams_in staged.wired in
        let ti = with_input (stream_after_hook (map Lends ends) made.input t.input) t in
        let first = input_redirected allows number_of context state held ends lower low s t made.input i now one staged.alike input staged.invariant in
        let second = output_redirected allows number_of context state held ends lower low (with_input i s) ti made.output o one two first.0 output first.1 in
        inl (stream_unredirected allows number_of context state held ends lower low (with_output o (with_input i s)) (with_output (stream_after_hook (map Lends ends) made.output t.output) ti) two then error unredirected second.1)

-- no hooks, and some hooks after others
module _ {E H : Type 0} (allows : Allows H) (refuses : Refuses H) (number_of : E → ℕ) (now : JournalView) (spec : SpecView) (s : PerStream (Stdio ℕ)) where
  pub alters_none : HooksSucceed {E = E} {H = H} allows number_of [] now now spec spec s s
  alters_none = λ context state held before hooks low below staged.
      subst (λ l. HooksInvariant allows number_of context state held before l now spec s) (sym (append-nil hooks)) staged

  module _ (first more : List (H × List E)) (one then : JournalView) (between : SpecView) (t : PerStream (Stdio ℕ)) where
    front_below : (base : ℕ) → AreBelow number_of base (first ++ more)
        → AreBelow number_of base first
    front_below base all = all_front (λ pair. All (λ end. number_of end < base) pair.1) first more all

    back_below : (base : ℕ) → AreBelow number_of base (first ++ more) → AreBelow number_of base more
    back_below base all = all_back (λ pair. All (λ end. number_of end < base) pair.1) first more all

    pub alters_append : (made : SpecView) (u : PerStream (Stdio ℕ))
        → HooksSucceed allows number_of first now one spec between s t
        → HooksSucceed allows number_of more one then between made t u
        → HooksSucceed allows number_of (first ++ more) now then spec made s u
    alters_append made u a b = λ context state held before hooks low below staged.
        subst (λ l. HooksInvariant allows number_of context state held before l then made u) (append_assoc hooks first more)
        (b context state held before (hooks ++ first) low (back_below context.base below) (a context state held before hooks low (front_below context.base below) staged))

    pub breaks_first : (error : Error)
        → HooksFail allows refuses number_of first now one spec s t error
        → HooksFail allows refuses number_of (first ++ more) now one spec s t error
    breaks_first error a = λ context state held before hooks low below staged.
        further context state held before hooks one t error (a context state held before hooks low (front_below context.base below) staged)
      where
        further : (context : RunContext) (state : State E H) (held : ResourcesView)
            (before : SpecWithStreams (Target E)) (hooks : List (H × List E)) (one : JournalView)
            (t : PerStream (Stdio ℕ)) (error : Error) →
            StopsAmongHooks allows refuses number_of context state held before (hooks ++ first) one t error → StopsAmongHooks allows refuses number_of context state held before (hooks ++ (first ++ more)) one t error
        further context state held before hooks one t error (inl plain) = inl plain
        further context state held before hooks one t error (inr hooked) = inr (record {
          targets = hooked.targets;
          invariant = hooked.invariant;
          stops = subst (λ l. HooksStop allows refuses l before error) (sym (hooks_by_target-append hooks (first ++ more) ∙ ap (λ l. hooks_by_target hooks ++ l) (hooks_by_target-append first more) ∙ sym (append_assoc (hooks_by_target hooks) (hooks_by_target first) (hooks_by_target more)) ∙ ap (λ l. l ++ hooks_by_target more) (sym (hooks_by_target-append hooks first))))
              (stops_front allows refuses (hooks_by_target (hooks ++ first)) (hooks_by_target more) before error hooked.stops);
        })

    pub breaks_more : (u : PerStream (Stdio ℕ)) (error : Error)
        → HooksSucceed allows number_of first now one spec between s t
        → HooksFail allows refuses number_of more one then between t u error
        → HooksFail allows refuses number_of (first ++ more) now then spec s u error
    breaks_more u error a b = λ context state held before hooks low below staged.
        subst (λ l. StopsAmongHooks allows refuses number_of context state held before l then u error) (append_assoc hooks first more)
        (b context state held before (hooks ++ first) low (back_below context.base below) (a context state held before hooks low (front_below context.base below) staged))

pub breaks_as : {E H : Type 0} (allows : Allows H) (refuses : Refuses H) (number_of : E → ℕ)
    (hooks others : List (H × List E)) (now then : JournalView) (spec : SpecView)
    (s t : PerStream (Stdio ℕ)) (error : Error) → hooks ≡ others
    → HooksFail allows refuses number_of hooks now then spec s t error
    → HooksFail allows refuses number_of others now then spec s t error
breaks_as allows refuses number_of hooks others now then spec s t error is breaks = subst (λ l. HooksFail allows refuses number_of l now then spec s t error) is breaks

-- What a command does besides fetching its ends: its canonical path, its hooks, its spawn.
use Rattle.std.specs.Prelude.{ℕ, ◌+◌, ◌-◌, ◌<◌, ◌≤◌, Bool, List, ◌∷◌, ◌++◌, ◌≡◌, ◌⊎◌, All, length, slice_get, map, is_some, if◌then◌else◌}
use Rattle.duct_base.specs.Executable.{asks_canonical}
use Rattle.duct_system.specs.EntryView.{EntryView}
use Rattle.duct_system.specs.Journal.{JournalView}
use Rattle.duct_system.specs.SpecView.{SpecView, Vars}
use Rattle.duct_system.specs.Streams.{end_of}
use Rattle.duct_system.specs.Trace.{trace}
use Rattle.duct_system.specs.declared.error.Error.{Error}
use Rattle.duct_system.specs.declared.spec.Port.{Port}
use Rattle.duct_system.specs.declared.spec.Port.TheVariants as port
use Rattle.duct_system.specs.declared.system.Stdio.{Stdio}
use Rattle.duct_system.specs.declared.system.Stdio.TheVariants.{Inherit, Null, End}
use Rattle.duct_run.specs.Actions.{Action, AreBelow, IsReady, Scope, State, PerStream, advance, stack_after_port}
use Rattle.duct_start.specs.Causes.{StoppedBy}
use Rattle.duct_start.specs.Chain.{Allows, Refuses, SpecWithStreams, HooksChange, HooksStop, stream_after_hook}
use Rattle.duct_start.specs.Follows.{text_in}
use Rattle.duct_start.specs.Surroundings.{Target, Lends}
use Rattle.duct_run.specs.ResourcesView.{ResourcesView}
use Rattle.duct_start.specs.Plan.{with_item, program_of}
use Rattle.duct_run.specs.RunInvariant.{RunContext, IsHookError, IsLater, RunInvariant, StopInvariant}
use Rattle.duct_start.specs.Step.{Item, AskCanonicalize}

-- the stream that a port takes from a stack
abbrev pub port_stream : {A : Type 0} → Port → List A → Stdio A
port_stream port.Given (top ∷ stack) = End top
port_stream port.Null stack = Null
port_stream p stack = Inherit

-- the streams that three ports take from a stack; stderr's end is on top
abbrev pub port_streams : {A : Type 0} → PerStream Port → List A → PerStream (Stdio A)
port_streams ports stack = record {
  input = port_stream ports.input (stack_after_port ports.output
      (stack_after_port ports.error stack));
  output = port_stream ports.output (stack_after_port ports.error stack);
  error = port_stream ports.error stack;
}

-- a stack with the ends of three streams pushed onto it
abbrev pub stack_with_streams : {A : Type 0} → PerStream (Stdio A) → List A → List A
stack_with_streams streams rest =
    end_of streams.error ++ (end_of streams.output ++ (end_of streams.input ++ rest))

-- a stream by number and a stream by target are of the same kind: inherited, null or an end
abbrev pub IsAlike : {E : Type 0} → Stdio ℕ → Stdio (Target E) → Type 0
IsAlike Inherit Inherit = Unit {0}
IsAlike Null Null = Unit {0}
IsAlike (End number) (End target) = Unit {0}
IsAlike stream other = ⊥

-- the three streams are of the same kinds
pub record AreAlike {E : Type 0} (streams : PerStream (Stdio ℕ))
    (others : PerStream (Stdio (Target E)))
    : Type 0 where
  pub input : IsAlike streams.input others.input
  pub output : IsAlike streams.output others.output
  pub error : IsAlike streams.error others.error

-- the three streams that belong to a spec
abbrev pub streams_in : {O : Type 0} → SpecWithStreams O → PerStream (Stdio O)
streams_in wired = record { input = wired.input; output = wired.output; error = wired.error }

-- hooks with their ends as targets
abbrev pub hooks_by_target : {E H : Type 0} → List (H × List E) → List (H × List (Target E))
hooks_by_target hooks = map (λ hook. (hook.0, map Lends hook.1)) hooks

-- a state with this stack
abbrev pub with_stack : {E H : Type 0} → List (Target E) → State E H → State E H
with_stack stack state = record { stack = stack; plan = state.plan }

-- the resources, with this stack
abbrev pub resources_with_stack : List ℕ → ResourcesView → ResourcesView
resources_with_stack stack held = record held { stack = stack }

-- the end of a stream is closed, if it has one, wherever it is on the stack
abbrev pub CloseSucceeds : {E H : Type 0} → Allows H → (E → ℕ) → JournalView → JournalView → Stdio ℕ
    → Type 0
CloseSucceeds {E} {H} allows number_of now next stream =
    (context : RunContext) (state : State E H) (held : ResourcesView) (over under : List ℕ)
    (above below : List (Target E)) (target : Stdio (Target E)) → IsAlike stream target
    → length over ≡ length above
    → RunInvariant allows number_of context (with_stack (above ++ (end_of target ++ below)) state)
    now
    (resources_with_stack (over ++ (end_of stream ++ under)) held)
    → length (above ++ (end_of target ++ below)) ≤ context.bound
    → RunInvariant allows number_of context (with_stack (above ++ below) state) next
    (resources_with_stack (over ++ under) held)

-- a stream is changed to what the port of a hook's spec says, and its old end is closed if it is
-- replaced, wherever that end is on the stack
abbrev pub RedirectSucceeds : {E H : Type 0} → Allows H → (E → ℕ) → List E → Port → JournalView
    → JournalView → Stdio ℕ → Stdio ℕ → Type 0
RedirectSucceeds {E} {H} allows number_of ends p now next old new =
    (context : RunContext) (state : State E H) (held : ResourcesView) (over under : List ℕ)
    (above below : List (Target E)) (target : Stdio (Target E)) → IsAlike old target
    → length over ≡ length above → All (λ end. number_of end < context.base) ends
    → length (above ++ (end_of target ++ below)) < context.bound
    → RunInvariant allows number_of context (with_stack (above ++ (end_of target ++ below)) state)
    now
    (resources_with_stack (over ++ (end_of old ++ under)) held)
    → let redirects = stream_after_hook (map Lends ends) p target in
    IsAlike new redirects
    × RunInvariant allows number_of context
    (with_stack (above ++ (end_of redirects ++ below)) state) next
    (resources_with_stack (over ++ (end_of new ++ under)) held)

-- a run stopped with an error that is not a hook's
abbrev pub FailsWithoutHook : {E H : Type 0} → Allows H → (E → ℕ) → RunContext → State E H
    → JournalView
    → ResourcesView → Error → Type 0
FailsWithoutHook allows number_of context state next held error =
    (IsHookError error → ⊥) × StopInvariant allows number_of context state.plan.items next held
    error

-- changing a stream failed with an error that is not a hook's, and the stack is as it was
abbrev pub RedirectFails : {E H : Type 0} → Allows H → (E → ℕ) → List E → JournalView → JournalView
    → Error → Type 0
RedirectFails {E} {H} allows number_of ends now next error =
    (context : RunContext) (state : State E H) (held : ResourcesView) (stack : List ℕ)
    (targets : List (Target E)) → All (λ end. number_of end < context.base) ends
    → length targets < context.bound
    → RunInvariant allows number_of context (with_stack targets state) now
    (resources_with_stack stack held)
    → FailsWithoutHook allows number_of context state next (resources_with_stack stack held) error

-- these hooks of a command have run: they led from `before` to this spec and these streams, and
-- nothing else has changed
pub record HooksInvariant {E H : Type 0} (allows : Allows H) (number_of : E → ℕ)
    (context : RunContext)
    (state : State E H) (held : ResourcesView) (before : SpecWithStreams (Target E))
    (hooks : List (H × List E))
    (now : JournalView) (spec : SpecView) (streams : PerStream (Stdio ℕ)) : Type 0 where
  pub wired : SpecWithStreams (Target E)
  pub spec_is : wired.spec ≡ spec
  pub alike : AreAlike streams (streams_in wired)
  pub chain : HooksChange allows (hooks_by_target hooks) before wired
  pub invariant : RunInvariant allows number_of context
      (with_stack (stack_with_streams (streams_in wired) state.stack) state) now
      (resources_with_stack (stack_with_streams streams held.stack) held)

-- a hook stopped the command: these hooks, begun at `before`, stop with this error, and no request
-- was made since
pub record StoppedByHook {E H : Type 0} (allows : Allows H) (refuses : Refuses H)
    (number_of : E → ℕ)
    (context : RunContext) (state : State E H) (held : ResourcesView)
    (before : SpecWithStreams (Target E))
    (hooks : List (H × List E)) (next : JournalView) (streams : PerStream (Stdio ℕ)) (error : Error)
    : Type 0 where
  pub targets : List (Target E)
  pub invariant : RunInvariant allows number_of context (with_stack targets state) next
      (resources_with_stack (stack_with_streams streams held.stack) held)
  pub stops : HooksStop allows refuses (hooks_by_target hooks) before error

-- a command stopped while its hooks ran: with an error that is not a hook's, or because a hook
-- stopped it
abbrev pub StopsAmongHooks : {E H : Type 0} → Allows H → Refuses H → (E → ℕ) → RunContext
    → State E H → ResourcesView
    → SpecWithStreams (Target E) → List (H × List E) → JournalView → PerStream (Stdio ℕ) → Error
    → Type 0
StopsAmongHooks allows refuses number_of context state held before hooks next streams error =
    FailsWithoutHook allows number_of context state next (resources_with_stack
    (stack_with_streams streams held.stack) held) error
    ⊎ StoppedByHook allows refuses number_of context state held before hooks next streams error

-- some hooks run after any earlier hooks of a command, and change its spec and its streams from the
-- old ones to the new ones
abbrev pub HooksSucceed : {E H : Type 0} → Allows H → (E → ℕ) → List (H × List E) → JournalView
    → JournalView → SpecView → SpecView → PerStream (Stdio ℕ) → PerStream (Stdio ℕ) → Type 0
HooksSucceed {E} {H} allows number_of more now next spec made old new =
    (context : RunContext) (state : State E H) (held : ResourcesView)
    (before : SpecWithStreams (Target E))
    (hooks : List (H × List E)) → length state.stack + 3 < context.bound
    → AreBelow number_of context.base more
    → HooksInvariant allows number_of context state held before hooks now spec old
    → HooksInvariant allows number_of context state held before (hooks ++ more) next made new

-- some hooks run after any earlier hooks of a command, and the command stops with this error
abbrev pub HooksFail : {E H : Type 0} → Allows H → Refuses H → (E → ℕ) → List (H × List E)
    → JournalView → JournalView → SpecView → PerStream (Stdio ℕ) → PerStream (Stdio ℕ) → Error
    → Type 0
HooksFail {E} {H} allows refuses number_of more now next spec old new error =
    (context : RunContext) (state : State E H) (held : ResourcesView)
    (before : SpecWithStreams (Target E))
    (hooks : List (H × List E)) → length state.stack + 3 < context.bound
    → AreBelow number_of context.base more
    → HooksInvariant allows number_of context state held before hooks now spec old
    → StopsAmongHooks allows refuses number_of context state held before
    (hooks ++ more) next new error

-- a run failed; if the error is a hook's, it is a hook of the command whose spawn is the next item
pub record StoppedWithCause {E H : Type 0} (allows : Allows H) (refuses : Refuses H)
    (number_of : E → ℕ)
    (context : RunContext) (items : List (Item E H)) (now : JournalView) (held : ResourcesView)
    (error : Error) : Type 0 where
  pub stopped : StopInvariant allows number_of context items now held error
  pub cause : IsHookError error → (more : List EntryView) → IsLater context now.next more
      → let place = length (trace stopped.added) in
      StoppedBy allows refuses number_of (trace (stopped.added ++ more)) place
      (slice_get items place) error

-- whether a command in this scope requests the canonical path of its program
abbrev pub asks_canonical_path : {E H : Type 0} → Scope E H → List (List ℕ) → Bool
asks_canonical_path scope words = asks_canonical (program_of words) (is_some scope.folder)

-- the state after that request, if it is made
abbrev pub after_canonical_path : {E H : Type 0} → Scope E H → List (List ℕ) → State E H → State E H
after_canonical_path scope words state = record {
  stack = state.stack;
  plan =
      if asks_canonical_path scope words then with_item (AskCanonicalize (program_of words))
      state.plan
      else state.plan;
}

-- the program of a command: the canonical path that the last entry returned, if one was requested,
-- or else the first word
abbrev pub program_in : Bool → List EntryView → List (List ℕ) → List ℕ
program_in asks_canonical_path entries words =
    if asks_canonical_path then text_in (slice_get entries (length entries - 1)) else program_of
    words

-- the canonical path of a command's program was requested, if one is needed, and this is its
-- program now
abbrev pub NameSucceeds : {E H : Type 0} → Allows H → (E → ℕ) → Scope E H → List (List ℕ)
    → JournalView
    → JournalView → List ℕ → Type 0
NameSucceeds {E} {H} allows number_of scope words now next program =
    (context : RunContext) (state : State E H) (held : ResourcesView)
    → RunInvariant allows number_of context state now held
    → (invariant : RunInvariant allows number_of context (after_canonical_path scope words state)
    next held)
    × (program_in (asks_canonical_path scope words) (trace invariant.added) words ≡ program)

-- an action succeeds in a run for which the system returned these variables
abbrev pub ActionSucceedsWith : {E H : Type 0} → Allows H → (E → ℕ) → Vars → Action E H
    → JournalView
    → JournalView → ResourcesView → ResourcesView → Type 0
ActionSucceedsWith {E} {H} allows number_of pairs action now next held kept =
    (context : RunContext) (state : State E H) → context.pairs ≡ pairs
    → IsReady number_of context.base context.bound state action
    → RunInvariant allows number_of context state now held
    → RunInvariant allows number_of context (advance state action) next kept

-- an action fails in a run for which the system returned these variables
abbrev pub ActionFailsWith : {E H : Type 0} → Allows H → Refuses H → (E → ℕ) → Vars → Action E H
    → JournalView → JournalView → ResourcesView → ResourcesView → Error → Type 0
ActionFailsWith {E} {H} allows refuses number_of pairs action now next held kept error =
    (context : RunContext) (state : State E H) → context.pairs ≡ pairs
    → IsReady number_of context.base context.bound state action
    → RunInvariant allows number_of context state now held
    → StoppedWithCause allows refuses number_of context (advance state action).plan.items next kept
    error

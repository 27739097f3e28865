-- How the hooks of a command change its spec and its streams, the outermost hook first, and when
-- one of them stops the start.
use Rattle.std.specs.Prelude.{ℕ, List, [], ◌∷◌, ◌≡◌, ◌⊎◌, length, map, slice_get, Some, None, nat_lt, if◌then◌else◌, Option}
use Rattle.duct_system.specs.Origin.{Origin, Lent}
use Rattle.duct_system.specs.SpecView.{SpecView, GivesNothing}
use Rattle.duct_system.specs.declared.error.Error.{Error}
use Rattle.duct_system.specs.declared.error.Error.TheVariants.{Hook, HookEnd}
use Rattle.duct_system.specs.declared.spec.Port.{Port}
use Rattle.duct_system.specs.declared.spec.Port.TheVariants as port
use Rattle.duct_system.specs.declared.spec.Stream.{Stream}
use Rattle.duct_system.specs.declared.spec.Stream.TheVariants.{In, Out, Err}
use Rattle.duct_system.specs.declared.system.Fault.{Fault}
use Rattle.duct_system.specs.declared.system.Stdio.{Stdio}
use Rattle.duct_system.specs.declared.system.Stdio.TheVariants.{Inherit, Null, End}

-- a spec with its three streams
pub record SpecWithStreams (O : Type 0) : Type 0 where
  pub spec : SpecView
  pub input : Stdio O
  pub output : Stdio O
  pub error : Stdio O

-- a spec with its three streams, each end by its origin
abbrev pub SpecWithOrigins : Type 0
SpecWithOrigins = SpecWithStreams Origin

-- which spec a hook of this type may make from a given one
abbrev pub Allows : Type 0 → Type 1
Allows H = H → SpecView → SpecView → Type 0

-- with which fault a hook of this type may refuse a given spec
abbrev pub Refuses : Type 0 → Type 1
Refuses H = H → SpecView → Fault → Type 0

-- the place that a port names, if the hook has no end at that place
abbrev pub missing_at : ℕ → Port → Option ℕ
missing_at count (port.Place place) = if nat_lt place count then None else Some place
missing_at count _ = None

-- the first place if there is one, or else the other
abbrev pub first_place : Option ℕ → Option ℕ → Option ℕ
first_place (Some place) other = Some place
first_place None other = other

-- the first place in a spec at which the hook has no end, in the order stdin, stdout, stderr
abbrev pub missing_place : ℕ → SpecView → Option ℕ
missing_place count spec =
    first_place (missing_at count spec.input)
    (first_place (missing_at count spec.output) (missing_at count spec.error))

-- the port after its place is found: a place becomes `Given`
abbrev pub resolved_port : Port → Port
resolved_port (port.Place place) = port.Given
resolved_port other = other

-- the spec with `Given` in place of the place that a stream names, if it names one
abbrev pub with_resolved_port : Stream → SpecView → SpecView
with_resolved_port In spec = record spec { input = resolved_port spec.input }
with_resolved_port Out spec = record spec { output = resolved_port spec.output }
with_resolved_port Err spec = record spec { error = resolved_port spec.error }

-- the stream to the end at a place, or `Inherit` if there is none
abbrev pub end_of_place : {O : Type 0} → Option O → Stdio O
end_of_place (Some origin) = End origin
end_of_place None = Inherit

-- what a stream becomes by its port; `Given` keeps the stream as it is
abbrev pub stream_after_hook : {O : Type 0} → List O → Port → Stdio O → Stdio O
stream_after_hook ends port.Inherit stream = Inherit
stream_after_hook ends port.Null stream = Null
stream_after_hook ends port.Given stream = stream
stream_after_hook ends (port.Place place) stream = end_of_place (slice_get ends place)

-- a spec that a hook made, with its streams: each place is found among the ends of the hook
abbrev pub after_hook : {O : Type 0} → List O → SpecView → SpecWithStreams O → SpecWithStreams O
after_hook ends made before = record {
  spec =
      record made {
        input = resolved_port made.input;
        output = resolved_port made.output;
        error = resolved_port made.error;
      };
  input = stream_after_hook ends made.input before.input;
  output = stream_after_hook ends made.output before.output;
  error = stream_after_hook ends made.error before.error;
}

-- a hook makes spec `made` from spec `before`: it may do so, and it makes no port `Given` that was
-- not `Given` before
pub record HookMakes {H : Type 0} (allows : Allows H) (hook : H)
    (before made : SpecView) : Type 0 where
  pub allowed : allows hook before made
  pub gives_nothing : GivesNothing before made

-- one hook leads from one spec with its streams to another
abbrev pub HookChanges : {H O : Type 0} → Allows H → H → List O → SpecWithStreams O
    → SpecWithStreams O → Type 0
HookChanges allows hook ends before after =
    (made : SpecView) × HookMakes allows hook before.spec made
    × (missing_place (length ends) made ≡ None)
    × (after ≡ after_hook ends made before)

-- the hooks, one after the other and each with its ends, lead from one spec with its streams to
-- another
abbrev pub HooksChange : {H O : Type 0} → Allows H → List (H × List O) → SpecWithStreams O
    → SpecWithStreams O → Type 0
HooksChange allows [] before after = after ≡ before
HooksChange {H} {O} allows (hook ∷ hooks) before after =
    (between : SpecWithStreams O) × HookChanges allows hook.0 hook.1 before between
    × HooksChange allows hooks between after

-- one hook stops the start with this error: with a fault of its own, or with the first place at
-- which it has no end
abbrev pub HookStops : {H O : Type 0} → Allows H → Refuses H → H → List O → SpecWithStreams O
    → Error → Type 0
HookStops allows refuses hook ends before (Hook fault) = refuses hook before.spec fault
HookStops allows refuses hook ends before (HookEnd place) =
    (made : SpecView) × HookMakes allows hook before.spec made
    × (missing_place (length ends) made ≡ Some place)
HookStops allows refuses hook ends before other = ⊥

-- one of the hooks stops the start with this error
abbrev pub HooksStop : {H O : Type 0} → Allows H → Refuses H → List (H × List O) → SpecWithStreams O
    → Error → Type 0
HooksStop allows refuses [] before error = ⊥
HooksStop {H} {O} allows refuses (hook ∷ hooks) before error =
    HookStops allows refuses hook.0 hook.1 before error
    ⊎ ((between : SpecWithStreams O) × HookChanges allows hook.0 hook.1 before between
    × HooksStop allows refuses hooks between error)

-- the hooks with the origins of their ends, which are caller's ends
abbrev pub hooks_by_origin : {E H : Type 0} → (E → ℕ) → List (H × List E) → List (H × List Origin)
hooks_by_origin number_of hooks = map (λ hook. (hook.0, map (λ end. Lent (number_of end)) hook.1))
    hooks

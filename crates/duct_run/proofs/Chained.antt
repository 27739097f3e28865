-- A chain of hooks over targets is also a chain of hooks over the origins of these targets.
use Rattle.std.proofs.Common.{◌≡◌, ℕ, inl, inr, List, [], ◌∷◌, refl, ap, sym, ◌∙◌, None, Some, map, slice_get, option_map, Option}
use Rattle.duct_run.proofs.Common.{length-map, slice_get-map, EntryView, Lent, SpecView, stream_of, Error, Port, Stdio, Allows, Refuses, HooksChange, HooksStop, HookChanges, HookStops, SpecWithStreams, end_of_place, hooks_by_origin, missing_place, after_hook, stream_after_hook, hooks_by_target, Lends}
use Rattle.duct_system.specs.declared.error.Error.TheVariants as error
use Rattle.duct_system.specs.declared.spec.Port.TheVariants as port
use Rattle.duct_run.proofs.Wires.{origin_of}

module _ {O P : Type 0} (f : O → P) where
  -- a spec with its streams, or hooks with their ends, with each end mapped by `f`
  abbrev pub wired_as : SpecWithStreams O → SpecWithStreams P
  wired_as wired = record {
    spec = wired.spec;
    input = stream_of f wired.input;
    output = stream_of f wired.output;
    error = stream_of f wired.error;
  }

  abbrev pub hooks_as : {H : Type 0} → List (H × List O) → List (H × List P)
  hooks_as hooks = map (λ hook. (hook.0, map f hook.1)) hooks

  place_as : (o : Option O) → end_of_place (option_map f o) ≡ stream_of f (end_of_place o)
  place_as None = refl
  place_as (Some x) = refl

  redirected_as : (ends : List O) (p : Port) (stream : Stdio O)
      → stream_of f (stream_after_hook ends p stream) ≡ stream_after_hook (map f ends) p (stream_of f stream)
  redirected_as ends port.Inherit stream = refl
  redirected_as ends port.Null stream = refl
  redirected_as ends port.Given stream = refl
  redirected_as ends (port.Place place) stream = sym (ap end_of_place (slice_get-map f ends place) ∙ place_as (slice_get ends place))

  redirect_as : (ends : List O) (made : SpecView) (before : SpecWithStreams O)
      → wired_as (after_hook ends made before) ≡ after_hook (map f ends) made (wired_as before)
  redirect_as ends made before = λ i. record {
    spec = (after_hook ends made before).spec;
    input = redirected_as ends made.input before.input i;
    output = redirected_as ends made.output before.output i;
    error = redirected_as ends made.error before.error i;
  }

  module _ {H : Type 0} (allows : Allows H) where
    changes_as : (hook : H) (ends : List O) (before after : SpecWithStreams O)
        → HookChanges allows hook ends before after
        → HookChanges allows hook (map f ends) (wired_as before) (wired_as after)
    changes_as hook ends before after changes =
        (changes.0, changes.1, ap (λ n. missing_place n changes.0) (length-map ends f) ∙ changes.2, ap wired_as changes.3 ∙ redirect_as ends changes.0 before)

    pub chain_as : (hooks : List (H × List O)) (before after : SpecWithStreams O)
        → HooksChange allows hooks before after
        → HooksChange allows (hooks_as hooks) (wired_as before) (wired_as after)
    chain_as [] before after chain = ap wired_as chain
    chain_as (hook ∷ hooks) before after chain = (wired_as chain.0, changes_as hook.0 hook.1 before chain.0 chain.1, chain_as hooks chain.0 after chain.2)

    stops_as : (refuses : Refuses H) (hook : H) (ends : List O) (before : SpecWithStreams O) (e : Error)
        → HookStops allows refuses hook ends before e
        → HookStops allows refuses hook (map f ends) (wired_as before) e
    stops_as refuses hook ends before (error.Hook fault) stops = stops
    stops_as refuses hook ends before (error.HookEnd place) stops = (stops.0, stops.1, ap (λ n. missing_place n stops.0) (length-map ends f) ∙ stops.2)
    stops_as refuses hook ends before e stops = absurd stops

    pub chain_stops_as : (refuses : Refuses H) (hooks : List (H × List O)) (before : SpecWithStreams O)
        (e : Error) → HooksStop allows refuses hooks before e
        → HooksStop allows refuses (hooks_as hooks) (wired_as before) e
    chain_stops_as refuses [] before e stops = absurd stops
    chain_stops_as refuses (hook ∷ hooks) before e (inl stops) = inl (stops_as refuses hook.0 hook.1 before e stops)
    chain_stops_as refuses (hook ∷ hooks) before e (inr rest) = inr (wired_as rest.0, changes_as hook.0 hook.1 before rest.0 rest.1, chain_stops_as refuses hooks rest.0 e rest.2)

-- the origins of a hook's ends are caller's ends
lent_ends : {E : Type 0} (entries : List EntryView) (number_of : E → ℕ) (ends : List E)
    → map (origin_of entries number_of) (map Lends ends) ≡ map (λ end. Lent (number_of end)) ends
lent_ends entries number_of [] = refl
lent_ends entries number_of (end ∷ ends) = ap (λ l. Lent (number_of end) ∷ l) (lent_ends entries number_of ends)

pub lends_lent : {E H : Type 0} (entries : List EntryView) (number_of : E → ℕ)
    (hooks : List (H × List E))
    → hooks_as (origin_of entries number_of) (hooks_by_target hooks) ≡ hooks_by_origin number_of hooks
lends_lent entries number_of [] = refl
lends_lent entries number_of (hook ∷ hooks) = λ i. (hook.0, lent_ends entries number_of hook.1 i) ∷ lends_lent entries number_of hooks i

-- Where a stream goes with one redirection around another, and with two swaps.
use Rattle.std.proofs.Common.{◌≡◌, ℕ, [], ◌∷◌, ◌++◌, refl, ap, subst, sym, ◌∙◌, Some, None, Option}
use Rattle.std.specs.Option.{option_or}
use Rattle.std.proofs.lemmas.List.{append-nil}
use Rattle.duct_system.specs.declared.spec.Stream.{Stream}
use Rattle.duct_system.specs.declared.spec.Stream.TheVariants.{In, Out, Err}
use Rattle.duct_laws.specs.Laws.{InnerRedirectionCounts, SwapsCancel}
use Rattle.duct_laws.specs.Redirected.{redirected}
use Rattle.duct_start.specs.Surroundings.{Target}
use Rattle.duct_start.specs.Lookup.{resolved_turn, stream_goes, folder_on, changes_on, hooks_on, surroundings_on, Path, within, segment_place, step_of}
use Rattle.duct_start.specs.Step.{Turn, Decides, DefersTo, step}
use Rattle.duct_start.specs.TreeView.{ModifierView, stdin_bytes, stdin_path, stdin_file, stdin_null, stdout_path, stdout_file, stdout_null, stdout_capture, stdout_to_stderr, stderr_path, stderr_file, stderr_null, stderr_capture, stderr_to_stdout, stdout_stderr_swap, dir, env, env_remove, full_env, unchecked, before_spawn}

-- two paths to the root on which a command finds the same
record AreAlike {E H : Type 0} (one other : Path E H) : Type 0 where
  streams : (stream : Stream) → stream_goes one stream ≡ stream_goes other stream
  folders : folder_on one ≡ folder_on other
  variables : changes_on one ≡ changes_on other
  hooked : hooks_on one ≡ hooks_on other

alike_within : {E H : Type 0} (front one other : Path E H) → AreAlike one other
    → AreAlike (front ++ one) (front ++ other)
alike_within [] one other alike = alike
alike_within (segment ∷ front) one other alike =
    let rest = alike_within front one other alike in
    record {
      streams = λ stream i. resolved_turn ((step_of segment).turn (segment_place segment) stream) (λ outer. rest.streams outer i);
      folders = λ i. option_or (step_of segment).folder (rest.folders i);
      variables = λ i. (step_of segment).changes ++ rest.variables i;
      hooked = λ i. rest.hooked i ++ (step_of segment).hooks;
    }

found_alike : {E H : Type 0} (one other : Path E H) → AreAlike one other
    → surroundings_on one ≡ surroundings_on other
found_alike one other alike = λ i. record {
  folder = alike.folders i;
  changes = alike.variables i;
  input = alike.streams In i;
  output = alike.streams Out i;
  error = alike.streams Err i;
  hooks = alike.hooked i;
}

-- a turn that does not follow this stream
abbrev IsApart : {E : Type 0} → Stream → Turn E → Type 0
IsApart stream (Decides target) = Unit {0}
IsApart stream (DefersTo other) = other ≡ stream → ⊥

-- turns of the three streams that leave all streams but one as they are, and none of which follows
-- that one
record TurnsOne {E : Type 0} (stream : Stream) (turns : Stream → Turn E) : Type 0 where
  others : (other : Stream) → (other ≡ stream → ⊥) → turns other ≡ DefersTo other
  apart : (other : Stream) → IsApart stream (turns other)

apart_as : {E : Type 0} (stream : Stream) (turn other : Turn E) → turn ≡ other → IsApart stream other
    → IsApart stream turn
apart_as stream turn other is apart = subst (λ turn. IsApart stream turn) (sym is) apart

module _ {E : Type 0} (turns : Stream → Turn E) where
  at_in : turns Out ≡ DefersTo Out → turns Err ≡ DefersTo Err → IsApart In (turns In) → TurnsOne In turns
  at_in output error apart = record { others = others; apart = aparts }
    where
      others : (other : Stream) → (other ≡ In → ⊥) → turns other ≡ DefersTo other
      others In differs = absurd (differs refl)
      others Out differs = output
      others Err differs = error

      aparts : (other : Stream) → IsApart In (turns other)
      aparts In = apart
      aparts Out = apart_as In (turns Out) (DefersTo Out) output (λ is. cc)
      aparts Err = apart_as In (turns Err) (DefersTo Err) error (λ is. cc)

  at_out : turns In ≡ DefersTo In → turns Err ≡ DefersTo Err → IsApart Out (turns Out) → TurnsOne Out turns
  at_out input error apart = record { others = others; apart = aparts }
    where
      others : (other : Stream) → (other ≡ Out → ⊥) → turns other ≡ DefersTo other
      others In differs = input
      others Out differs = absurd (differs refl)
      others Err differs = error

      aparts : (other : Stream) → IsApart Out (turns other)
      aparts In = apart_as Out (turns In) (DefersTo In) input (λ is. cc)
      aparts Out = apart
      aparts Err = apart_as Out (turns Err) (DefersTo Err) error (λ is. cc)

  at_err : turns In ≡ DefersTo In → turns Out ≡ DefersTo Out → IsApart Err (turns Err) → TurnsOne Err turns
  at_err input output apart = record { others = others; apart = aparts }
    where
      others : (other : Stream) → (other ≡ Err → ⊥) → turns other ≡ DefersTo other
      others In differs = input
      others Out differs = output
      others Err differs = absurd (differs refl)

      aparts : (other : Stream) → IsApart Err (turns other)
      aparts In = apart_as Err (turns In) (DefersTo In) input (λ is. cc)
      aparts Out = apart_as Err (turns Out) (DefersTo Out) output (λ is. cc)
      aparts Err = apart

-- a turn that does not follow this stream is not changed by turns that redirect only this stream
passes : {E : Type 0} (stream : Stream) (turn : Turn E) → IsApart stream turn
    → (turns : Stream → Turn E) → TurnsOne stream turns → (further : Stream → Target E)
    → resolved_turn turn (λ other. resolved_turn (turns other) further) ≡ resolved_turn turn further
passes stream (Decides target) apart turns one further = refl
passes stream (DefersTo other) apart turns one further =
    ap (λ next. resolved_turn next further) (one.others other apart)

-- a node that changes only this stream
record Speaks {E H : Type 0} (stream : Stream) (modifier : ModifierView E H) (place : ℕ)
    : Type 0 where
  turns : TurnsOne stream ((step modifier).turn place)
  no_folder : (step modifier).folder ≡ None
  no_changes : (step modifier).changes ≡ []
  no_hooks : (step modifier).hooks ≡ []

-- a node that redirects a stream changes only that stream; nothing is claimed of a node that
-- redirects none
abbrev Says : {E H : Type 0} → Option Stream → ModifierView E H → ℕ → Type 0
Says None modifier place = Unit {0}
Says (Some stream) modifier place = Speaks stream modifier place

module _ {E H : Type 0} where
  speaks : (stream : Stream) (modifier : ModifierView E H) (place : ℕ)
      → TurnsOne stream ((step modifier).turn place) → (step modifier).folder ≡ None
      → (step modifier).changes ≡ [] → (step modifier).hooks ≡ [] → Speaks stream modifier place
  speaks stream modifier place turns a b c =
      record { turns = turns; no_folder = a; no_changes = b; no_hooks = c }

  says : (modifier : ModifierView E H) (place : ℕ) → Says (redirected modifier) modifier place
  says (stdin_bytes bytes) place = speaks In (stdin_bytes bytes) place (at_in _ refl refl tt) refl refl refl
  says (stdin_path path) place = speaks In (stdin_path path) place (at_in _ refl refl tt) refl refl refl
  says (stdin_file end) place = speaks In (stdin_file end) place (at_in _ refl refl tt) refl refl refl
  says stdin_null place = speaks In stdin_null place (at_in _ refl refl tt) refl refl refl
  says (stdout_path path) place = speaks Out (stdout_path path) place (at_out _ refl refl tt) refl refl refl
  says (stdout_file end) place = speaks Out (stdout_file end) place (at_out _ refl refl tt) refl refl refl
  says stdout_null place = speaks Out stdout_null place (at_out _ refl refl tt) refl refl refl
  says stdout_capture place = speaks Out stdout_capture place (at_out _ refl refl tt) refl refl refl
  says stdout_to_stderr place =
      speaks Out stdout_to_stderr place (at_out _ refl refl (λ is. cc)) refl refl refl
  says (stderr_path path) place = speaks Err (stderr_path path) place (at_err _ refl refl tt) refl refl refl
  says (stderr_file end) place = speaks Err (stderr_file end) place (at_err _ refl refl tt) refl refl refl
  says stderr_null place = speaks Err stderr_null place (at_err _ refl refl tt) refl refl refl
  says stderr_capture place = speaks Err stderr_capture place (at_err _ refl refl tt) refl refl refl
  says stderr_to_stdout place =
      speaks Err stderr_to_stdout place (at_err _ refl refl (λ is. cc)) refl refl refl
  says stdout_stderr_swap place = tt
  says (dir path) place = tt
  says (env name value) place = tt
  says (env_remove name) place = tt
  says (full_env vars) place = tt
  says unchecked place = tt
  says (before_spawn hook ends) place = tt

  speaks_of : (modifier : ModifierView E H) (place : ℕ) (stream : Stream)
      → redirected modifier ≡ Some stream → Speaks stream modifier place
  speaks_of modifier place stream is =
      subst (λ which. Says which modifier place) is (says modifier place)

-- two redirections of one stream, one directly around the other: a command finds the same as with
-- the inner one alone
pub inner_counts : (E H : Type 0) → InnerRedirectionCounts E H
inner_counts E H inner outer p q stream one other front up =
    let a = speaks_of inner p stream one in
    let b = speaks_of outer q stream other in
    found_alike _ _
    (alike_within front (within p inner ∷ within q outer ∷ up) (within p inner ∷ up) record {
      streams = λ s. passes stream ((step inner).turn p s) (a.turns.apart s) ((step outer).turn q) b.turns (λ t. stream_goes up t);
      folders = ap (λ f. option_or (step inner).folder (option_or f (folder_on up))) b.no_folder;
      variables = ap (λ c. (step inner).changes ++ (c ++ changes_on up)) b.no_changes;
      hooked = ap (λ h. (hooks_on up ++ h) ++ (step inner).hooks) b.no_hooks ∙ ap (λ h. h ++ (step inner).hooks) (append-nil (hooks_on up));
    })

-- two swaps of stdout and stderr, one directly around the other: a command finds the same as
-- without them
pub swaps_cancel : (E H : Type 0) → SwapsCancel E H
swaps_cancel E H p q front up =
    found_alike _ _
    (alike_within front (within p stdout_stderr_swap ∷ within q stdout_stderr_swap ∷ up) up record {
      streams = back;
      folders = refl;
      variables = refl;
      hooked = append-nil (hooks_on up ++ []) ∙ append-nil (hooks_on up);
    })
  where
    back : (stream : Stream)
        → stream_goes (within p stdout_stderr_swap ∷ within q stdout_stderr_swap ∷ up) stream
        ≡ stream_goes up stream
    back In = refl
    back Out = refl
    back Err = refl

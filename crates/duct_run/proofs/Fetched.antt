-- A command fetches the ends that its streams are wired to, and is spawned with them.
use Rattle.std.proofs.Common.{◌≡◌, ℕ, ◌+◌, ◌≤◌, ◌<◌, List, [], ◌∷◌, length, refl, ap, sym, ◌∙◌, arith, subst, Bool, true, false, Some, IsSome, unwrap_or}
use Rattle.duct_run.proofs.Common.{port_to, Port, Stream, In, Action, Scope, State, PerStream, Leads, advance, port_in, at_depth, stream_target, stack_after_port, port_end_count, stack_after_ports, surroundings_by, StreamSource, source_actions, port_at, ports_at, command_actions, SourceLeadsTo, is_stdin, is_in, is_out, is_err, is_nothing, is_slot, is_captured, is_lent, IsGot, SourcesFit, Surroundings, Target, Parents, Nothing, ReaderAt, WriterAt, FileAt, Lends, target_of, Plan, with_command}
use Rattle.duct_system.specs.declared.spec.Port.TheVariants as port
use Rattle.duct_system.specs.declared.system.Side.TheVariants as side
use Rattle.duct_system.specs.declared.spec.Stream.TheVariants.{Out, Err}
use Rattle.duct_run.specs.Actions as action
use Rattle.duct_run.proofs.Keeping.{Keeps, keeps_same}
use Rattle.duct_run.proofs.Stacks.{level_under, level_within, leads_none, leads_one, leads_append}

-- a stack with the end that a port takes pushed onto it, if the port takes one
abbrev pub put : {A : Type 0} → Port → A → List A → List A
put port.Given x stack = x ∷ stack
put p x stack = stack

less_is : {A : Type 0} (p : Port) (x : A) (stack : List A) → stack_after_port p (put p x stack) ≡ stack
less_is port.Inherit x stack = refl
less_is port.Null x stack = refl
less_is port.Given x stack = refl
less_is (port.Place place) x stack = refl

long_is : {A : Type 0} (p : Port) (x : A) (stack : List A)
    → length (put p x stack) ≡ port_end_count p + length stack
long_is port.Inherit x stack = omega arith
long_is port.Null x stack = omega arith
long_is port.Given x stack = omega arith
long_is (port.Place place) x stack = omega arith

few : (p : Port) → port_end_count p ≤ 1
few port.Inherit = omega arith
few port.Null = omega arith
few port.Given = omega arith
few (port.Place place) = omega arith

-- the next state keeps what a wire may lead to: the ends at their depths, and the open capture
-- pipes
pub record Grows {E H : Type 0} (state next : State E H) : Type 0 where
  pub levels : (n : ℕ) (x : Target E) → at_depth state.stack n ≡ Some x → at_depth next.stack n ≡ Some x
  pub keeps : Keeps state.plan next.plan

module _ {E H : Type 0} where
  pub grows_by : (stack : List (Target E)) (x : Target E) (p q : Plan E H) → Keeps p q
      → Grows (record { stack = stack; plan = p }) (record { stack = x ∷ stack; plan = q })
  grows_by stack x p q keeps = record { levels = λ n y is. level_under stack x y n is; keeps = keeps }

  pub grows_plan : (stack : List (Target E)) (p q : Plan E H) → Keeps p q
      → Grows (record { stack = stack; plan = p }) (record { stack = stack; plan = q })
  grows_plan stack p q keeps = record { levels = λ n x is. is; keeps = keeps }

  pub grows_on : {state mid next : State E H} → Grows state mid → Grows mid next
      → Grows state next
  grows_on a b = record {
    levels = λ n x is. b.levels n x (a.levels n x is);
    keeps = record { pipes = λ which p is. b.keeps.pipes which p (a.keeps.pipes which p is) };
  }

  put_grows : (state : State E H) (p : Port) (x : Target E)
      → Grows state (record { stack = put p x state.stack; plan = state.plan })
  put_grows state port.Inherit x = grows_plan state.stack state.plan state.plan (keeps_same state.plan state.plan refl)
  put_grows state port.Null x = grows_plan state.stack state.plan state.plan (keeps_same state.plan state.plan refl)
  put_grows state port.Given x = grows_by state.stack x state.plan state.plan (keeps_same state.plan state.plan refl)
  put_grows state (port.Place place) x = grows_plan state.stack state.plan state.plan (keeps_same state.plan state.plan refl)

port_nothing : (E : Type 0) (s : Stream) → port_to {E = E} s Nothing ≡ port.Null
port_nothing E In = refl
port_nothing E Out = refl
port_nothing E Err = refl

port_lent : {E : Type 0} (s : Stream) (end : E) → port_to s (Lends end) ≡ port.Given
port_lent In end = refl
port_lent Out end = refl
port_lent Err end = refl

port_got : {E : Type 0} (s : Stream) (t : Target E) → IsGot t → port_to s t ≡ port.Given
port_got In (ReaderAt place) got = refl
port_got In (WriterAt place) got = refl
port_got In (FileAt place) got = refl
port_got Out (ReaderAt place) got = refl
port_got Out (WriterAt place) got = refl
port_got Out (FileAt place) got = refl
port_got Err (ReaderAt place) got = refl
port_got Err (WriterAt place) got = refl
port_got Err (FileAt place) got = refl
port_got s (Parents stream) got = absurd got
port_got s Nothing got = absurd got
port_got s (Lends end) got = absurd got

three_ports : {E H : Type 0} (ports : PerStream Port) (found : Surroundings E H)
    → ports.input ≡ port_to In found.input → ports.output ≡ port_to Out found.output →
    ports.error ≡ port_to Err found.error → (stream : Stream) → port_in ports stream ≡ port_to stream (target_of found stream)
three_ports ports found input output error In = input
three_ports ports found input output error Out = output
three_ports ports found input output error Err = error

module _ {E H : Type 0} (number_of : E → ℕ) (base : ℕ) where
  wire_grows : (state next : State E H) (b : Bool) (w : StreamSource E) (t : Target E) → Grows state next
      → SourceLeadsTo number_of base state b w t → SourceLeadsTo number_of base next b w t
  wire_grows state next b w t grows is_in = is_in
  wire_grows state next b w t grows is_out = is_out
  wire_grows state next b w t grows is_err = is_err
  wire_grows state next b w t grows (is_nothing c) = is_nothing c
  wire_grows state next b w t grows (is_slot c n x got is) = is_slot c n x got (grows.levels n x is)
  wire_grows state next b w t grows (is_captured c which place is) = is_captured c which place (grows.keeps.pipes which place is)
  wire_grows state next b w t grows (is_lent c end is) = is_lent c end is

  pub fits_grow : (state next : State E H) (scope : Scope E H) (wires : PerStream (StreamSource E))
      (found : Surroundings E H) → Grows state next → SourcesFit number_of base state scope wires found
      → SourcesFit number_of base next scope wires found
  fits_grow state next scope wires found grows fits = record {
    folder = fits.folder;
    changes = fits.changes;
    hooks = fits.hooks;
    input = wire_grows state next true wires.input found.input grows fits.input;
    output = wire_grows state next false wires.output found.output grows fits.output;
    error = wire_grows state next false wires.error found.error grows fits.error;
    below = fits.below;
  }

  -- the end that a stream is wired to is fetched, the stream has the port of where it goes, and by
  -- that port it goes there
  record IsFetched (bound : ℕ) (state : State E H) (s : Stream) (w : StreamSource E) (t : Target E) : Type 0 where
    leads : Leads number_of base bound state (source_actions w s) (record { stack = put (port_at w s) t state.stack; plan = state.plan })
    port_is : port_at w s ≡ port_to s t
    goes : (stack : List (Target E)) → stream_target s (port_at w s) (put (port_at w s) t stack) ≡ t

  module _ (bound : ℕ) where
    -- one action fetches the end by pushing it
    by_one : (state : State E H) (s : Stream) (w : StreamSource E) (t : Target E) (x : Action E H)
        → source_actions {E = E} {K = Scope E H} w s ≡ x ∷ [] → port_at w s ≡ port.Given
        → port_to s t ≡ port.Given →
        action.pop_count x ≡ 0 → action.Needs number_of base bound state x → advance state x ≡ action.with_end t state → length state.stack + 1 ≤ bound → IsFetched bound state s w t
    by_one state s w t x one port_is goes_is none needs is low = record {
      leads = subst (λ (p : Port). Leads number_of base bound state (source_actions w s) (record { stack = put p t state.stack; plan = state.plan })) (sym port_is)
          (subst (λ (l : List (Action E H)). Leads number_of base bound state l (action.with_end t state)) (sym one) (leads_one number_of base bound state x _ none needs is (omega (arith, low))));
      port_is = port_is ∙ sym goes_is;
      goes = λ stack. ap (λ p. stream_target s p (put p t stack)) port_is;
    }

    fetched : (state : State E H) (s : Stream) (b : Bool) (w : StreamSource E) (t : Target E)
        → is_stdin s ≡ b → SourceLeadsTo number_of base state b w t → length state.stack + 1 ≤ bound →
        IsFetched bound state s w t
    fetched state s b w t which (is_nothing c) low = record { leads = leads_none number_of base bound state; port_is = sym (port_nothing E s); goes = λ stack. refl }
    fetched state s b w t which (is_slot c n x got is) low =
        by_one state s w t (action.duplicate n) refl refl (port_got s t got) refl (level_within state.stack x n is) (ap (λ o. action.with_end (unwrap_or o Nothing) state) is) low
    fetched state s b w t which (is_captured c capture place is) low =
        by_one state s w t (action.duplicate_capture capture) refl refl (port_got s t tt) refl (subst IsSome (sym is) refl) (ap (λ o. action.with_end (WriterAt (unwrap_or o 0)) state) is) low
    fetched state s b w t which (is_lent c end is) low = by_one state s w t (action.duplicate_caller_end end) refl refl (port_lent s end) refl is refl low
    fetched state In b w t which is_in low = record { leads = leads_none number_of base bound state; port_is = refl; goes = λ stack. refl }
    fetched state In b w t which is_out low = absurd (cc)
    fetched state In b w t which is_err low = absurd (cc)
    fetched state Out b w t which is_in low = absurd (cc)
    fetched state Out b w t which is_out low = record { leads = leads_none number_of base bound state; port_is = refl; goes = λ stack. refl }
    fetched state Out b w t which is_err low = by_one state Out w t (action.parent side.Err) refl refl refl refl tt refl low
    fetched state Err b w t which is_in low = absurd (cc)
    fetched state Err b w t which is_out low = by_one state Err w t (action.parent side.Out) refl refl refl refl tt refl low
    fetched state Err b w t which is_err low = record { leads = leads_none number_of base bound state; port_is = refl; goes = λ stack. refl }

    -- the actions of a command lead to its items, and leave the stack as it was
    pub command_leads : (state : State E H) (scope : Scope E H) (wires : PerStream (StreamSource E))
        (found : Surroundings E H) (words : List (List ℕ)) →
        SourcesFit number_of base state scope wires found → length state.stack + 3 < bound →
        Leads number_of base bound state (command_actions scope wires words)
        (record { stack = state.stack; plan = with_command found words state.plan })
    command_leads state scope wires found words fits low =
        let pi = port_at wires.input In in
        let po = port_at wires.output Out in
        let pe = port_at wires.error Err in
        let st1 : State E H = record { stack = put pi found.input state.stack; plan = state.plan } in
        let st2 : State E H = record { stack = put po found.output st1.stack; plan = state.plan } in
        let st3 : State E H = record { stack = put pe found.error st2.stack; plan = state.plan } in
        let fits1 = fits_grow state st1 scope wires found (put_grows state pi found.input) fits in
        let fits2 = fits_grow st1 st2 scope wires found (put_grows st1 po found.output) fits1 in
        let li = long_is pi found.input state.stack in
        let lo = long_is po found.output st1.stack in
        let le = long_is pe found.error st2.stack in
        let fi = few pi in
        let fo = few po in
        let fe = few pe in
        let i = fetched state In true wires.input found.input refl fits.input (omega (arith, low)) in
        let o = fetched st1 Out false wires.output found.output refl fits1.output (omega (arith, low, li, fi)) in
        let e = fetched st2 Err false wires.error found.error refl fits2.error (omega (arith, low, li, lo, fi, fo)) in
        let ae : stack_after_port pe st3.stack ≡ st2.stack = less_is pe found.error st2.stack in
        let ao : stack_after_port po st2.stack ≡ st1.stack = less_is po found.output st1.stack in
        let ai : stack_after_port pi st1.stack ≡ state.stack = less_is pi found.input state.stack in
        let left : stack_after_ports (ports_at wires) st3.stack ≡ state.stack = ap (λ l. stack_after_port pi (stack_after_port po l)) ae ∙ ap (stack_after_port pi) ao ∙ ai in
        let folder = sym fits.folder in
        let changes = sym fits.changes in
        let hooks = sym fits.hooks in
        let input = ap (λ l. stream_target In pi (stack_after_port po l)) ae ∙ ap (stream_target In pi) ao ∙ i.goes state.stack in
        let output = ap (stream_target Out po) ae ∙ o.goes st1.stack in
        let all : surroundings_by scope (ports_at wires) st3.stack ≡ found =
        λ j. record { folder = folder j; changes = changes j; input = input j; output = output j; error = e.goes st2.stack j; hooks = hooks j } in
        let next : State E H = record { stack = state.stack; plan = with_command found words state.plan } in
        let is : advance st3 (action.spawn scope words (ports_at wires)) ≡ next = λ j. record { stack = left j; plan = with_command (all j) words state.plan } in
        let ports : (stream : Stream) → port_in (ports_at wires) stream ≡ port_to stream (target_of found stream) =
        three_ports (ports_at wires) found i.port_is o.port_is e.port_is in
        let spawns : Leads number_of base bound st3 (action.spawn scope words (ports_at wires) ∷ []) next = record {
          ready = (
            record {
              full = omega (arith, li, lo, le);
              needs = record {
                ports_are = subst (λ f. (stream : Stream) → port_in (ports_at wires) stream ≡ port_to stream (target_of f stream)) (sym all) ports;
                below = fits.below;
                place = omega (arith, ap (λ (x : List (Target E)). length x) left, low);
              };
              low = omega (arith, ap (λ (x : List (Target E)). length x) left, low);
            },
            tt,
          );
          is = is;
        } in
        leads_append number_of base bound state st1 next _ _ i.leads
        (leads_append number_of base bound st1 st2 next _ _ o.leads
        (leads_append number_of base bound st2 st3 next _ _ e.leads spawns))

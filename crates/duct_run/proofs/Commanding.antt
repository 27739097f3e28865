-- A command as a whole: its canonical path, its hooks and its spawn.
use Rattle.std.proofs.Common.{◌≡◌, ℕ, ◌+◌, ◌-◌, ◌≤◌, List, [], ◌∷◌, ◌++◌, length, refl, ap, sym, ◌∙◌, arith, subst, append_assoc, length-append, Bool, true, false, Err, Ok, Some, if◌then◌else◌, slice_get}
use Rattle.duct_run.proofs.Common.{EntryView, Canonicalize, Spawn, JournalView, AddsNothing, Asks, GivesEnds, IsRefused, spent_by, SpecView, Vars, trace, Error, System, Port, Stream, Fault, Stdio, Action, Scope, State, PerStream, surroundings_by, stack_after_ports, port_end_count, port_in, IsAsked, port_to, Allows, Refuses, SpecWithStreams, HooksSucceed, HooksFail, ActionSucceedsWith, NameSucceeds, ActionFailsWith, HooksInvariant, stack_with_streams, resources_with_stack, asks_canonical_path, after_canonical_path, program_in, port_streams, with_stack, text_in, Target, target_of, ResourcesView, with_item, program_of, Pairwise, RunContext, IsEarly, IsFrom, IsHookError, IsAllocationFailure, ActionFails, RunInvariant, Item, AskCanonicalize, AskSpawn, items_if, items_of, commanded_is, trace-append}
use Rattle.duct_system.specs.declared.error.Error.TheVariants as error
use Rattle.duct_run.specs.Actions as action
use Rattle.duct_run.proofs.Going.{none_changes, memory_fails, quits_none}
use Rattle.duct_run.proofs.Redirecting.{split_second}
use Rattle.duct_run.proofs.Spawning.{halts_refused, onwards, plain_refused, spawn_succeeds, spawn_fails, invariant_back, invariant_onwards, stopped_back}
use Rattle.duct_run.proofs.Stacks.{get_seam}
use Rattle.duct_run.proofs.RunInvariant.{as_many, few_now, sources_now, invariant_more, stops_unasked}
use Rattle.duct_run.proofs.Wires.{alike_by, handed_taken}

-- an allocation failure is not a hook's error
unasked_plain : (e : Error) → IsAllocationFailure e → IsHookError e → ⊥
unasked_plain (error.System fault) un is = is
unasked_plain error.Memory un is = is
unasked_plain (error.Hook fault) un is = un
unasked_plain (error.HookEnd place) un is = un
unasked_plain e un is = un

module _ {E H : Type 0} (allows : Allows H) (number_of : E → ℕ) (scope : Scope E H) (words : List (List ℕ)) where
  named_as : (b : Bool) → asks_canonical_path scope words ≡ b → (state : State E H) →
      after_canonical_path scope words state ≡ record { stack = state.stack; plan = if b then with_item (AskCanonicalize (program_of words)) state.plan else state.plan }
  named_as b is state = ap (λ (c : Bool). record { stack = state.stack; plan = if c then with_item (AskCanonicalize (program_of words)) state.plan else state.plan }) is

  named_answer : (context : RunContext) (more : State E H) (held : ResourcesView) (next : JournalView)
      (text : List ℕ) (invariant : RunInvariant allows number_of context more next held)
      (front : List EntryView) →
      invariant.added ≡ front ++ Canonicalize (program_of words) (Ok text) ∷ [] → (other : State E H) → more ≡ other → (b : Bool) → b ≡ true →
      (s : RunInvariant allows number_of context other next held) × (program_in b (trace s.added) words ≡ text)
  named_answer context more held next text invariant front seen other same false is = absurd (cc)
  named_answer context more held next text invariant front seen other same true is =
      let entry = Canonicalize (program_of words) (Ok text) in
      let answer : program_in true (trace invariant.added) words ≡ text =
      ap (λ l. program_in true (trace l) words) seen ∙ ap (λ l. program_in true l words) (trace-append front (entry ∷ [])) ∙ last_text (trace front) entry in
      subst (λ (s : State E H). (z : RunInvariant allows number_of context s next held) × (program_in true (trace z.added) words ≡ text)) same (invariant, answer)
    where
      last_text : (xs : List EntryView) (entry : EntryView)
          → text_in (slice_get (xs ++ entry ∷ []) (length (xs ++ entry ∷ []) - 1)) ≡ text_in
          (Some entry)
      last_text xs entry =
          let place : length (xs ++ entry ∷ []) - 1 ≡ length xs = omega (arith, length-append xs (entry ∷ [])) in
          ap (λ n. text_in (slice_get (xs ++ entry ∷ []) n)) place ∙ ap text_in (get_seam xs entry)

  -- the canonical path was requested and returned
  pub names_some : (now next : JournalView) (text : List ℕ) → asks_canonical_path scope words ≡ true
      → Asks (Canonicalize (program_of words) (Ok text)) now next
      → NameSucceeds {E = E} {H = H} allows number_of scope words now next text
  names_some now next text is asked = λ context state held invariant.
      let entry = Canonicalize (program_of words) (Ok text) in
      let item : Item E H = AskCanonicalize (program_of words) in
      let more : State E H = action.with_opened_ends [] item state in
      let ch = none_changes entry now next held asked refl refl refl refl refl in
      let whole : RunInvariant allows number_of context more next held =
      invariant_more allows number_of context state more (item ∷ []) now next held held entry invariant refl ch (few_now allows number_of context state now held invariant)
      (record { stack = invariant.shaped.stack; pipes = invariant.shaped.pipes }) refl refl (λ l later. (refl, tt))
      (λ l later. let s = sources_now allows number_of context state more (item ∷ []) now next held held entry invariant refl ch l later in record { stack = s.stack; pipes = s.pipes }) in
      let old = context.old.entries in
      let seen : old ++ whole.added ≡ old ++ (invariant.added ++ entry ∷ []) =
      sym whole.ledger.entries_are ∙ asked.entries_are ∙ ap (λ (l : List EntryView). l ++ entry ∷ []) invariant.ledger.entries_are ∙ append_assoc old invariant.added (entry ∷ []) in
      named_answer context more held next text whole invariant.added (split_second old old whole.added (invariant.added ++ entry ∷ []) refl seen) (after_canonical_path scope words state) (sym (named_as true is state)) (asks_canonical_path scope words) is

  -- the canonical path was requested and refused
  pub name_fails : (now next : JournalView) (held : ResourcesView) (ports : PerStream Port) (fault : Fault)
      → asks_canonical_path scope words ≡ true
      → IsRefused (Canonicalize (program_of words) (Err fault)) 0 fault now next
      → ActionFails allows number_of (action.spawn scope words ports) now next held held (System fault)
  name_fails now next held ports fault is refused =
      quits_none allows number_of (action.spawn scope words ports) (λ st. items_if true (surroundings_by scope ports st.stack) words) (Canonicalize (program_of words) (Err fault)) fault now next held
      (λ st. ap (λ p. p.items) (commanded_is (surroundings_by scope ports st.stack) words st.plan) ∙ ap (λ b. st.plan.items ++ items_if b (surroundings_by scope ports st.stack) words) is)
      refused refl refl refl refl refl refl (λ context st L. (refl, tt))

  module _ (refuses : Refuses H) (pairs : Vars) (ports : PerStream Port) (now : JournalView) (held : ResourcesView) where
    abbrev act : Action E H
    act = action.spawn scope words ports

    -- an allocation failed before the command made a request
    pub unasked_refused : (next : JournalView) (e : Error) → AddsNothing now next → IsAllocationFailure e
        → ActionFailsWith allows refuses number_of pairs act now next held held e
    unasked_refused next e nothing un = λ context state is ready invariant.
        plain_refused allows refuses number_of context _ next held e (unasked_plain e un)
        (memory_fails allows number_of act (λ st. items_of (surroundings_by scope ports st.stack) words) now next held e (λ st. ap (λ p. p.items) (commanded_is (surroundings_by scope ports st.stack) words st.plan)) nothing un context state ready invariant)

    -- the request for the canonical path was refused
    pub name_refused : (next : JournalView) (fault : Fault) → asks_canonical_path scope words ≡ true
        → IsRefused (Canonicalize (program_of words) (Err fault)) 0 fault now next
        → ActionFailsWith allows refuses number_of pairs act now next held held (System fault)
    name_refused next fault is refused = λ context state same ready invariant.
        plain_refused allows refuses number_of context _ next held (System fault) (λ no. no) (name_fails now next held ports fault is refused context state ready invariant)

    module _ (one : JournalView) (program : List ℕ) (names : NameSucceeds {E = E} {H = H} allows number_of scope words now one program) where
      -- an allocation for the spec failed
      pub spec_refused : (e : Error) → IsAllocationFailure e
          → ActionFailsWith allows refuses number_of pairs act now one held held e
      spec_refused e un = λ context state is ready invariant.
          let n = names context state held invariant in
          plain_refused allows refuses number_of context _ one held e (unasked_plain e un)
          (stops_unasked allows number_of context (after_canonical_path scope words state) (action.advance state act).plan.items (AskSpawn (surroundings_by scope ports state.stack) words ∷ []) one one held e n.0 refl (record { entries_are = refl; added_is = refl; next_grows = omega arith; room_grows = omega arith }) un)

      module _ (asked : SpecView) (made : (stack : List (Target E)) → ((s : Stream) → port_in ports s ≡ port_to s (target_of (surroundings_by scope ports stack) s)) → IsAsked pairs program (surroundings_by scope ports stack) words asked) where
        module _ (context : RunContext) (state : State E H) (same : context.pairs ≡ pairs) (ready : action.IsReady number_of context.base context.bound state act) (invariant : RunInvariant allows number_of context state now held) where
          abbrev front : List EntryView
          front = (names context state held invariant).0.added

          asked_is : IsAsked context.pairs program (surroundings_by scope ports state.stack) words asked
          asked_is = subst (λ ps. IsAsked ps program (surroundings_by scope ports state.stack) words asked) (sym same) (made state.stack ready.needs.ports_are)

          tops : (L : List EntryView) × (numbers : List ℕ) ×
              Pairwise (IsFrom (IsEarly context) number_of L) numbers state.stack
          tops =
              let n = (names context state held invariant).0 in
              (n.added ++ [], held.stack, (n.sources [] (record { fresh = λ k lt. refl })).stack)

          -- the command before its hooks run
          abbrev under : State E H
          under = with_stack (stack_after_ports ports state.stack) (after_canonical_path scope words state)

          abbrev kept_low : ResourcesView
          kept_low = resources_with_stack (stack_after_ports ports held.stack) held

          abbrev asks_it : SpecWithStreams (Target E)
          asks_it =
              let t = port_streams ports state.stack in
              record { spec = asked; input = t.input; output = t.output; error = t.error }

          begun : HooksInvariant allows number_of (onwards context front) under kept_low asks_it
              [] one asked (port_streams ports held.stack)
          begun =
              let all = handed_taken ports state.stack ready.full in
              let full : port_end_count ports.input + (port_end_count ports.output + port_end_count ports.error) ≤ length held.stack = omega (arith, ready.full, invariant.shaped.stack) in
              let numbers = handed_taken ports held.stack full in
              record {
                wired = asks_it;
                spec_is = refl;
                alike = alike_by ports held.stack state.stack invariant.shaped.stack;
                chain = refl;
                invariant = subst (λ l. RunInvariant allows number_of (onwards context front) (with_stack l under) one (resources_with_stack (stack_with_streams (port_streams ports held.stack) kept_low.stack) kept_low)) (sym all)
                    (subst (λ l. RunInvariant allows number_of (onwards context front) (after_canonical_path scope words state) one (resources_with_stack l kept_low)) (sym numbers)
                    (invariant_onwards allows number_of context front (after_canonical_path scope words state) one held (names context state held invariant).0 refl));
              }

          from : (later : List EntryView) × (front ≡ context.front ++ later)
          from = (names context state held invariant).0.starts

        -- the child was started
        pub spawned : (next : JournalView) (spec : SpecView) (t : PerStream (Stdio ℕ))
            (two : JournalView)
            (number count : ℕ)
            → HooksSucceed allows number_of scope.hooks one two asked spec (port_streams ports held.stack) t
            → let entry = Spawn spec (t.input ∷ t.output ∷ t.error ∷ []) (Ok number) in
            GivesEnds entry count two next → count ≡ length (spent_by entry)
            → ActionSucceedsWith allows number_of pairs act now next held
            (record held { stack = stack_after_ports ports held.stack; children = held.children ++ number ∷ [] })
        spawned next spec t two number count alters gives port_end_count = λ context state same ready invariant.
            let n = names context state held invariant in
            let staged = alters (onwards context n.0.added) (under context state same ready invariant) (kept_low context state same ready invariant) (asks_it context state same ready invariant) [] ready.needs.place ready.needs.below (begun context state same ready invariant) in
            invariant_back allows number_of context n.0.added n.0.starts (action.advance state act) next _
            (spawn_succeeds allows number_of context scope words ports state held asked program n.0.added ready.full ready.needs (asked_is context state same ready invariant) (as_many n.0) n.1 (tops context state same ready invariant)
            two next spec t staged number count gives port_end_count)

        -- the system refused the spawn
        pub spawn_refused : (next : JournalView) (spec : SpecView) (t : PerStream (Stdio ℕ))
            (two : JournalView) (fault : Fault) (count : ℕ)
            → HooksSucceed allows number_of scope.hooks one two asked spec (port_streams ports held.stack) t
            → let entry = Spawn spec (t.input ∷ t.output ∷ t.error ∷ []) (Err fault) in
            IsRefused entry count fault two next → count ≡ length (spent_by entry)
            → ActionFailsWith allows refuses number_of pairs act now next held
            (resources_with_stack (stack_after_ports ports held.stack) held) (System fault)
        spawn_refused next spec t two fault count alters refused port_end_count = λ context state same ready invariant.
            let n = names context state held invariant in
            let staged = alters (onwards context n.0.added) (under context state same ready invariant) (kept_low context state same ready invariant) (asks_it context state same ready invariant) [] ready.needs.place ready.needs.below (begun context state same ready invariant) in
            plain_refused allows refuses number_of context _ next _ (System fault) (λ no. no)
            (stopped_back allows number_of context n.0.added _ next _ (System fault)
            (spawn_fails allows number_of context scope words ports state held asked program n.0.added ready.full ready.needs (asked_is context state same ready invariant) (as_many n.0) n.1 (tops context state same ready invariant)
            two next spec t staged fault count refused port_end_count))

        -- a hook stopped the command, or a request failed while its hooks ran
        pub hooks_refused : (next : JournalView) (t : PerStream (Stdio ℕ)) (e : Error)
            → HooksFail allows refuses number_of scope.hooks one next asked (port_streams ports held.stack) t e
            → ActionFailsWith allows refuses number_of pairs act now next held
            (resources_with_stack (stack_with_streams t (stack_after_ports ports held.stack)) held) e
        hooks_refused next t e breaks = λ context state same ready invariant.
            let n = names context state held invariant in
            let halts = breaks (onwards context n.0.added) (under context state same ready invariant) (kept_low context state same ready invariant) (asks_it context state same ready invariant) [] ready.needs.place ready.needs.below (begun context state same ready invariant) in
            halts_refused allows number_of context scope words ports state held asked program n.0.added ready.full ready.needs (asked_is context state same ready invariant) (as_many n.0) n.1 (tops context state same ready invariant)
            refuses n.0.starts next t e halts

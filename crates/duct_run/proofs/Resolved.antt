-- The list of a tree, with the scopes themselves in place of their indices, is its flat plan.
use Rattle.std.proofs.Common.{◌≡◌, ℕ, ◌+◌, List, [], ◌∷◌, ◌++◌, length, refl, ap, sym, ◌∙◌, arith, length-append, None, Some, slice_get, unwrap_or, Option}
use Rattle.duct_run.proofs.Common.{map-append, Stream, In, Action, ActionOf, Scope, PerStream, StreamSource, parents, nothing, slot, captured, lent, source_actions, command_actions, depth_inside, ports_at, with_input, with_output, actions_of_subtree, actions_of, root_scope, root_sources, scope_if, scope_inside, sources_inside, actions_around, ScopeEntry, list_of_subtree, list_of, next_index, scope_at, scope_index, with_scope_entry, with_scope, scopes_from, resolved, resolved_all, RowOpening, SettingView, opens_nothing, opens_input, opens_read, opens_create, opens_capture, row, step_of_setting, TreeView, command, pipe, around}
use Rattle.duct_system.specs.declared.spec.Stream.TheVariants.{Out, Err}
use Rattle.duct_run.specs.Actions as action
use Rattle.duct_run.proofs.ScopeIn.{known_stays}
use Rattle.duct_run.proofs.Stacks.{get_seam}

module _ {E H : Type 0} where
  from_append : (known : List (Scope E H)) (xs ys : List (ScopeEntry E H))
      → scopes_from known (xs ++ ys) ≡ scopes_from (scopes_from known xs) ys
  from_append known [] ys = refl
  from_append known (x ∷ xs) ys = from_append (with_scope known x) xs ys

  length_from : (known : List (Scope E H)) (scopes : List (ScopeEntry E H))
      → length (scopes_from known scopes) ≡ length known + length scopes
  length_from known [] = omega arith
  length_from known (scope ∷ scopes) =
      let x = scope_inside (step_of_setting scope.0) (scope_at known scope.1) in
      omega (arith, length_from (known ++ x ∷ []) scopes, length-append known (x ∷ []))

  fetches_same : (scopes : List (Scope E H)) (w : StreamSource E) (stream : Stream)
      → resolved_all scopes (source_actions w stream) ≡ source_actions w stream
  fetches_same scopes nothing stream = refl
  fetches_same scopes (slot depth) stream = refl
  fetches_same scopes (captured which) stream = refl
  fetches_same scopes (lent end) stream = refl
  fetches_same scopes (parents In) stream = refl
  fetches_same scopes (parents Out) In = refl
  fetches_same scopes (parents Out) Out = refl
  fetches_same scopes (parents Out) Err = refl
  fetches_same scopes (parents Err) In = refl
  fetches_same scopes (parents Err) Out = refl
  fetches_same scopes (parents Err) Err = refl

  joined_same : (scopes : List (Scope E H)) (xs : List (ActionOf E ℕ)) (same : List (Action E H))
      (ys : List (ActionOf E ℕ)) (others : List (Action E H)) →
      resolved_all scopes xs ≡ same → resolved_all scopes ys ≡ others → resolved_all scopes (xs ++ ys) ≡ same ++ others
  joined_same scopes xs same ys others one other = map-append (λ a. resolved scopes a) xs ys ∙ (λ j. one j ++ other j)

  command_same : (scopes : List (Scope E H)) (i : ℕ) (s : Scope E H) (w : PerStream (StreamSource E))
      (words : List (List ℕ)) → slice_get scopes i ≡ Some s →
      resolved_all scopes (command_actions i w words) ≡ command_actions s w words
  command_same scopes i s w words here =
      joined_same scopes _ _ _ _ (fetches_same scopes w.input In)
      (joined_same scopes _ _ _ _ (fetches_same scopes w.output Out)
      (joined_same scopes _ _ _ _ (fetches_same scopes w.error Err) (ap (λ o. action.spawn (unwrap_or o root_scope) words (ports_at w) ∷ []) here)))

  wrapped_same : (scopes : List (Scope E H)) (opens : RowOpening) (inside : List (ActionOf E ℕ))
      (same : List (Action E H)) → resolved_all scopes inside ≡ same
      → resolved_all scopes (actions_around opens inside) ≡ actions_around opens same
  wrapped_same scopes opens_nothing inside same is = is
  wrapped_same scopes (opens_input bytes) inside same is = ap (λ xs. action.input ∷ xs) (joined_same scopes inside same (action.close ∷ action.feed bytes ∷ []) (action.close ∷ action.feed bytes ∷ []) is refl)
  wrapped_same scopes (opens_read path) inside same is = ap (λ xs. action.open_read path ∷ xs) (joined_same scopes inside same (action.close ∷ []) (action.close ∷ []) is refl)
  wrapped_same scopes (opens_create path) inside same is = ap (λ xs. action.create path ∷ xs) (joined_same scopes inside same (action.close ∷ []) (action.close ∷ []) is refl)
  wrapped_same scopes (opens_capture which) inside same is = ap (λ xs. action.capture which ∷ xs) is

  resolves_row : (says : Option (SettingView E H)) (known : List (Scope E H)) (i next : ℕ) (s : Scope E H)
      (later : List (ScopeEntry E H)) (w : PerStream (StreamSource E)) (inner : TreeView E H) (n : ℕ)
      → next ≡ length known → slice_get known i ≡ Some s
      → ((known : List (Scope E H)) (i : ℕ) (w : PerStream (StreamSource E)) (n next : ℕ) (s : Scope E H)
      (later : List (ScopeEntry E H)) → next ≡ length known → slice_get known i ≡ Some s
      → resolved_all (scopes_from (scopes_from known (list_of_subtree i w inner n next).scopes) later) (list_of_subtree i w inner n next).actions ≡ actions_of_subtree s w inner n)
      → resolved_all
      (scopes_from (scopes_from known (with_scope_entry says i (list_of_subtree (scope_index says i next) w inner n (next_index says next)).scopes)) later)
      (list_of_subtree (scope_index says i next) w inner n (next_index says next)).actions
      ≡ actions_of_subtree (scope_if says s) w inner n
  resolves_row None known i next s later w inner n is here inside = inside known i w n next s later is here
  resolves_row (Some says) known i next s later w inner n is here inside =
      let node = step_of_setting {E = E} {H = H} says in
      let found = ap (λ o. unwrap_or o root_scope) here in
      let more = known ++ scope_inside node (scope_at known i) ∷ [] in
      inside more next w n (next + 1) (scope_inside node s) later
      (omega (arith, is, length-append known (scope_inside node (scope_at known i) ∷ [])))
      (ap (slice_get more) is ∙ get_seam known (scope_inside node (scope_at known i)) ∙ ap (λ x. Some (scope_inside node x)) found)

  -- the list of a tree is its flat plan, whatever scopes come later
  resolves : (tree : TreeView E H) (known : List (Scope E H)) (i : ℕ) (w : PerStream (StreamSource E))
      (n next : ℕ) (s : Scope E H) (later : List (ScopeEntry E H)) → next ≡ length known →
      slice_get known i ≡ Some s →
      resolved_all (scopes_from (scopes_from known (list_of_subtree i w tree n next).scopes) later) (list_of_subtree i w tree n next).actions ≡ actions_of_subtree s w tree n
  resolves (command words) known i w n next s later is here = command_same (scopes_from known later) i s w words (known_stays known later i s here)
  resolves (pipe left right) known i w n next s later is here =
      let up = with_output (slot (n + 1)) w in
      let down = with_input (slot n) w in
      let a = list_of_subtree {E = E} {H = H} i up left (n + 2) next in
      let b = list_of_subtree {E = E} {H = H} i down right (n + 1) (next + length a.scopes) in
      let more = scopes_from known a.scopes in
      let all = scopes_from (scopes_from known (a.scopes ++ b.scopes)) later in
      let split : all ≡ scopes_from (scopes_from more b.scopes) later = ap (λ k. scopes_from k later) (from_append known a.scopes b.scopes) in
      let one : resolved_all all a.actions ≡ actions_of_subtree s up left (n + 2) =
      ap (λ k. resolved_all k a.actions) (split ∙ sym (from_append more b.scopes later)) ∙ resolves left known i up (n + 2) next s (b.scopes ++ later) is here in
      let other : resolved_all all b.actions ≡ actions_of_subtree s down right (n + 1) =
      ap (λ k. resolved_all k b.actions) split
      ∙ resolves right more i down (n + 1) (next + length a.scopes) s later (omega (arith, is, length_from known a.scopes)) (known_stays known a.scopes i s here) in
      ap (λ xs. action.pipe ∷ xs)
      (joined_same all a.actions _ _ _ one (ap (λ xs. action.close ∷ xs) (joined_same all b.actions _ (action.close ∷ []) (action.close ∷ []) other refl)))
  resolves (around modifier inner) known i w n next s later is here =
      let r = row modifier in
      let wires = sources_inside r n w in
      let depth = depth_inside r.opens n in
      let inside = list_of_subtree {E = E} {H = H} (scope_index r.says i next) wires inner depth (next_index r.says next) in
      let scopes = scopes_from (scopes_from known (with_scope_entry r.says i inside.scopes)) later in
      wrapped_same scopes r.opens inside.actions _
      (resolves_row r.says known i next s later wires inner depth is here (resolves inner))

  -- the whole list of a tree is its flat plan
  pub list_resolves : (tree : TreeView E H)
      → resolved_all (scopes_from (root_scope ∷ []) (list_of tree).scopes) (list_of tree).actions
      ≡ actions_of tree
  list_resolves tree = resolves tree (root_scope ∷ []) 0 root_sources 0 1 root_scope [] refl refl

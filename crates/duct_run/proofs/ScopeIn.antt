-- The scope of an index in a list: what its own node sets, inside its outer scope.
use Rattle.std.proofs.Common.{◌≡◌, ℕ, zero, suc, ◌+◌, ◌<◌, List, [], ◌∷◌, ◌++◌, length, ap, sym, ◌∙◌, arith, inl, inr, length-append, Some, slice_get, unwrap_or}
use Rattle.duct_run.proofs.Common.{slice_get_cases, Scope, root_scope, scope_inside, AreOutwards, ScopeEntry, scope_at, scope_in, scopes_from, with_scope, step_of_setting}
use Rattle.duct_run.proofs.Stacks.{get_front, get_seam}

module _ {E H : Type 0} where
  -- the known scopes keep their indices
  pub known_stays : (known : List (Scope E H)) (scopes : List (ScopeEntry E H)) (i : ℕ)
      (s : Scope E H) → slice_get known i ≡ Some s → slice_get (scopes_from known scopes) i ≡ Some s
  known_stays known [] i s is = is
  known_stays known (scope ∷ scopes) i s is = known_stays (with_scope known scope) scopes i s (get_front known _ i s is)

  scope_stays : (known : List (Scope E H)) (scopes : List (ScopeEntry E H)) (i : ℕ)
      → i < length known → scope_at known i ≡ scope_at (scopes_from known scopes) i
  scope_stays known scopes i low = elim (slice_get_cases known i).1 [
    | inl found ↦ ap (λ o. unwrap_or o root_scope) (found.2) ∙ sym (ap (λ o. unwrap_or o root_scope) (known_stays known scopes i found.0 found.2))
    | inr past ↦ absurd (omega (arith, past.0))
  ]

  -- the scope of each node comes after the known ones and after those of the nodes before it
  invariant_behind : (known : List (Scope E H)) (scopes : List (ScopeEntry E H)) (k n : ℕ)
      (scope : ScopeEntry E H) →
      slice_get scopes k ≡ Some scope → n ≡ length known + k → scope.1 < n →
      slice_get (scopes_from known scopes) n ≡ Some (scope_inside (step_of_setting scope.0) (scope_at (scopes_from known scopes) scope.1))
  invariant_behind known [] k n scope here is outwards = absurd (cc)
  invariant_behind known (x ∷ scopes) zero n scope here is outwards =
      let same : x ≡ scope = cc in
      let made = scope_inside (step_of_setting x.0) (scope_at known x.1) in
      let stays : scope_at known x.1 ≡ scope_at (scopes_from (with_scope known x) scopes) x.1 = scope_stays known (x ∷ scopes) x.1 (omega (arith, ap (λ (s : ScopeEntry E H). s.1) same)) in
      let last : n ≡ length known = omega arith in
      known_stays (with_scope known x) scopes n made (ap (λ k. slice_get (known ++ made ∷ []) k) last ∙ get_seam known made)
      ∙ ap (λ s. Some (scope_inside (step_of_setting x.0) s)) stays
      ∙ ap (λ (s : ScopeEntry E H). Some (scope_inside (step_of_setting s.0) (scope_at (scopes_from (with_scope known x) scopes) s.1))) same
  invariant_behind known (x ∷ scopes) (suc k) n scope here is outwards =
      invariant_behind (with_scope known x) scopes k n scope here
      (omega (arith, length-append known (scope_inside (step_of_setting x.0) (scope_at known x.1) ∷ []))) outwards

  -- the scope of index 0 is the root's
  pub scope_in_root : (scopes : List (ScopeEntry E H)) → scope_in scopes 0 ≡ root_scope
  scope_in_root scopes = sym (scope_stays (root_scope ∷ []) scopes 0 (omega arith))

  -- a scope is what its node sets, inside its outer scope
  pub scope_in_next : (scopes : List (ScopeEntry E H)) (k : ℕ) (scope : ScopeEntry E H)
      → AreOutwards scopes → slice_get scopes k ≡ Some scope
      → scope_in scopes (k + 1) ≡ scope_inside (step_of_setting scope.0) (scope_in scopes scope.1)
  scope_in_next scopes k scope outwards here =
      let low = outwards k scope here in
      ap (λ o. unwrap_or o root_scope) (invariant_behind (root_scope ∷ []) scopes k (k + 1) scope here (omega arith) (omega arith))

-- One step to the scope outside, as the code reads it.
use Rattle.std.proofs.Common.{◌≡◌, ℕ, ◌+◌, ◌-◌, ◌<◌, ◌≤◌, length, get_or, refl, ap, sym, ◌∙◌, arith, List, Some, slice_get, option_map}
use Rattle.duct_run.proofs.Common.{slice_get-map, slice_get_read, root_scope, scope_inside, AreOutwards, scope_in, step_of_setting, scope_view, scopes_view, setting_view}
use Rattle.duct_run.proofs.ScopeIn.{scope_in_root, scope_in_next}
use Rattle.duct_run.specs.declared.scope.Scope.{Scope}

-- this scope was read at an index that is not the root's
pub record IsRead {E H : Type 0} (scopes : List (Scope E H)) (n : ℕ) (here : Scope E H)
    : Type 0 where
  pub outwards : AreOutwards (scopes_view scopes)
  pub above : 0 < n
  pub within : n ≤ length scopes
  pub is : here ≡ get_or scopes (n - 1) here

module _ {E H : Type 0} {scopes : List (Scope E H)} {n : ℕ} {here : Scope E H}
    (read : IsRead scopes n here) where
  invariant_there : slice_get (scopes_view scopes) (n - 1) ≡ Some (scope_view here)
  invariant_there =
      let low : n - 1 < length scopes = omega (arith, read.above, read.within) in
      slice_get-map (λ s. scope_view s) scopes (n - 1)
      ∙ ap (λ o. option_map (λ s. scope_view s) o) (slice_get_read scopes (length scopes) (n - 1) here refl low read.is)

  -- the index of the scope outside is lower
  pub outer_below : here.outer < n
  outer_below = omega (arith, read.outwards (n - 1) (scope_view here) invariant_there, read.above)

  pub outer_within : here.outer ≤ length scopes
  outer_within = omega (arith, outer_below, read.within)

  -- the scope is its node inside the scope outside
  pub is_next : scope_in (scopes_view scopes) n
      ≡ scope_inside (step_of_setting (setting_view here.setting)) (scope_in (scopes_view scopes) here.outer)
  is_next =
      let next : n - 1 + 1 ≡ n = omega (arith, read.above) in
      sym (ap (λ m. scope_in (scopes_view scopes) m) next)
      ∙ scope_in_next (scopes_view scopes) (n - 1) (scope_view here) read.outwards invariant_there

-- the root's scope sets nothing
pub root_is : {E H : Type 0} (scopes : List (Scope E H)) (n : ℕ) → n ≤ 0
    → scope_in (scopes_view scopes) n ≡ root_scope
root_is scopes n low =
    let none : n ≡ 0 = omega (arith, low) in
    ap (λ m. scope_in (scopes_view scopes) m) none ∙ scope_in_root (scopes_view scopes)

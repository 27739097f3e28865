-- In the list of a tree, each scope comes after its outer scope.
use Rattle.std.proofs.Common.{◌≡◌, ℕ, zero, suc, ◌+◌, ◌≤◌, List, [], ◌∷◌, ◌++◌, length, refl, ap, arith, None, Some, slice_get, Option}
use Rattle.duct_run.proofs.Common.{PerStream, StreamSource, slot, depth_inside, with_input, with_output, root_sources, sources_inside, AreOutwards, ScopeEntry, list_of_subtree, list_of, next_index, scope_index, with_scope_entry, SettingView, row, TreeView, command, pipe, around}

module _ {E H : Type 0} where
  -- the same for scopes that come after `base` others
  abbrev AreOutwardsFrom : ℕ → List (ScopeEntry E H) → Type 0
  AreOutwardsFrom base [] = Unit {0}
  AreOutwardsFrom base (scope ∷ scopes) = (scope.1 ≤ base) × AreOutwardsFrom (base + 1) scopes

  at_each : (base : ℕ) (scopes : List (ScopeEntry E H)) → AreOutwardsFrom base scopes
      → (i : ℕ) (scope : ScopeEntry E H) → slice_get scopes i ≡ Some scope → scope.1 ≤ base + i
  at_each base [] outwards i scope is = absurd (cc)
  at_each base (first ∷ scopes) outwards zero scope is =
      let same : first ≡ scope = cc in
      omega (arith, ap (λ (s : ScopeEntry E H). s.1) same)
  at_each base (first ∷ scopes) outwards (suc i) scope is =
      omega (arith, at_each (base + 1) scopes outwards.1 i scope is)

  outwards-append : (base next : ℕ) (some more : List (ScopeEntry E H))
      → next ≡ base + length some → AreOutwardsFrom base some → AreOutwardsFrom next more
      → AreOutwardsFrom base (some ++ more)
  outwards-append base next [] more is first second =
      let same : next ≡ base = omega arith in rw (← same) second
  outwards-append base next (scope ∷ some) more is first second =
      (first.0, outwards-append (base + 1) next some more (omega arith) first.1 second)

  -- so do the scope of a node and the scopes inside it
  outwards_row : (says : Option (SettingView E H)) (base i next : ℕ) (w : PerStream (StreamSource E))
      (inner : TreeView E H) (n : ℕ) → i ≤ base → next ≡ base + 1
      → ((base i : ℕ) (w : PerStream (StreamSource E)) (n next : ℕ) → i ≤ base → next ≡ base + 1
      → AreOutwardsFrom base (list_of_subtree i w inner n next).scopes)
      → AreOutwardsFrom base (with_scope_entry says i (list_of_subtree (scope_index says i next) w inner n (next_index says next)).scopes)
  outwards_row None base i next w inner n low is inside = inside base i w n next low is
  outwards_row (Some said) base i next w inner n low is inside =
      (low, inside (base + 1) next w n (next + 1) (omega (arith, is)) (omega (arith, is)))

  -- there are `base` scopes in the list before those of a tree, and the outer scope of the tree is
  -- one of them or the root's
  outwards : (tree : TreeView E H) (base i : ℕ) (w : PerStream (StreamSource E)) (n next : ℕ) → i ≤ base
      → next ≡ base + 1 → AreOutwardsFrom base (list_of_subtree i w tree n next).scopes
  outwards (command words) base i w n next low is = tt
  outwards (pipe left right) base i w n next low is =
      let some = (list_of_subtree i (with_output (slot (n + 1)) w) left (n + 2) next).scopes in
      let more = (list_of_subtree i (with_input (slot n) w) right (n + 1) (next + length some)).scopes in
      outwards-append base (base + length some) some more refl
      (outwards left base i (with_output (slot (n + 1)) w) (n + 2) next low is)
      (outwards right (base + length some) i (with_input (slot n) w) (n + 1) (next + length some)
      (omega arith) (omega arith))
  outwards (around modifier inner) base i w n next low is =
      let r = row modifier in
      outwards_row r.says base i next (sources_inside r n w) inner (depth_inside r.opens n) low is
      (outwards inner)

-- each scope of a whole tree comes after its outer scope
pub listed_outwards : {E H : Type 0} (tree : TreeView E H) → AreOutwards (list_of tree).scopes
listed_outwards tree i scope is =
    let scopes = (list_of tree).scopes in
    omega (arith, at_each 0 scopes (outwards tree 0 0 root_sources 0 1 (omega arith) refl) i scope is)

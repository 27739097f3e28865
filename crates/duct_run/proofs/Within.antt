-- In the list of a tree, each command's scope is the root's or one of the listed scopes.
use Rattle.std.proofs.Common.{ℕ, ◌+◌, ◌≤◌, List, [], ◌∷◌, ◌++◌, length, arith, length-append, None, Some, All, Option}
use Rattle.duct_run.proofs.Common.{All-append, All-cons, All-nil, Stream, In, ActionOf, PerStream, StreamSource, parents, nothing, slot, captured, lent, source_actions, depth_inside, with_input, with_output, root_sources, ports_at, sources_inside, actions_around, IsWithin, list_of_subtree, list_of, next_index, scope_index, with_scope_entry, RowOpening, SettingView, opens_nothing, opens_input, opens_read, opens_create, opens_capture, row, TreeView, command, pipe, around}
use Rattle.duct_system.specs.declared.spec.Stream.TheVariants.{Out, Err}
use Rattle.duct_system.specs.declared.system.Side.TheVariants as side
use Rattle.duct_run.specs.Actions as action

module _ {E : Type 0} (count : ℕ) where
  abbrev P : ActionOf E ℕ → Type 0
  P act = IsWithin count act

  nil : All P []
  nil = All-nil P

  cons : (act : ActionOf E ℕ) (acts : List (ActionOf E ℕ)) → P act → All P acts → All P (act ∷ acts)
  cons act acts first rest = All-cons P act acts first rest

  join : (xs ys : List (ActionOf E ℕ)) → All P xs → All P ys → All P (xs ++ ys)
  join xs ys first rest = All-append P xs ys first rest

  fetched : (w : StreamSource E) (s : Stream) → All P (source_actions w s)
  fetched nothing s = nil
  fetched (slot depth) s = cons (action.duplicate depth) [] tt nil
  fetched (captured which) s = cons (action.duplicate_capture which) [] tt nil
  fetched (lent end) s = cons (action.duplicate_caller_end end) [] tt nil
  fetched (parents In) s = nil
  fetched (parents Out) In = cons (action.parent side.Out) [] tt nil
  fetched (parents Out) Out = nil
  fetched (parents Out) Err = cons (action.parent side.Out) [] tt nil
  fetched (parents Err) In = cons (action.parent side.Err) [] tt nil
  fetched (parents Err) Out = cons (action.parent side.Err) [] tt nil
  fetched (parents Err) Err = nil

  -- one action before others, and a close after them
  closed : (act : ActionOf E ℕ) (acts : List (ActionOf E ℕ)) → P act → All P acts
      → All P (act ∷ (acts ++ action.close ∷ []))
  closed act acts first inside = cons act (acts ++ action.close ∷ []) first (join acts (action.close ∷ []) inside (cons action.close [] tt nil))

  wrapped_within : (opens : RowOpening) (inside : List (ActionOf E ℕ)) → All P inside
      → All P (actions_around opens inside)
  wrapped_within opens_nothing inside all = all
  wrapped_within (opens_input bytes) inside all = cons action.input _ tt (join inside (action.close ∷ action.feed bytes ∷ []) all (cons action.close (action.feed bytes ∷ []) tt (cons (action.feed bytes) [] tt nil)))
  wrapped_within (opens_read path) inside all = closed (action.open_read path) inside tt all
  wrapped_within (opens_create path) inside all = closed (action.create path) inside tt all
  wrapped_within (opens_capture which) inside all = cons (action.capture which) inside tt all

module _ {E H : Type 0} (count : ℕ) where
  within_row : (says : Option (SettingView E H)) (i next : ℕ) (w : PerStream (StreamSource E)) (inner : TreeView E H)
      (n : ℕ) → i ≤ count
      → next + length (with_scope_entry says i (list_of_subtree (scope_index says i next) w inner n (next_index says next)).scopes) ≤ count + 1
      → ((i : ℕ) (w : PerStream (StreamSource E)) (n next : ℕ) → i ≤ count
      → next + length (list_of_subtree i w inner n next).scopes ≤ count + 1
      → All (λ act. IsWithin count act) (list_of_subtree i w inner n next).actions)
      → All (λ act. IsWithin count act) (list_of_subtree (scope_index says i next) w inner n (next_index says next)).actions
  within_row None i next w inner n low few inside = inside i w n next low few
  within_row (Some said) i next w inner n low few inside = inside next w n (next + 1) (omega (arith, few)) (omega (arith, few))

  within : (tree : TreeView E H) (i : ℕ) (w : PerStream (StreamSource E)) (n next : ℕ) → i ≤ count
      → next + length (list_of_subtree i w tree n next).scopes ≤ count + 1
      → All (λ act. IsWithin count act) (list_of_subtree i w tree n next).actions
  within (command words) i w n next low few =
      let spawn = action.spawn i words (ports_at w) in
      join count (source_actions w.input In) _ (fetched count w.input In) (join count (source_actions w.output Out) _ (fetched count w.output Out) (join count (source_actions w.error Err) (spawn ∷ []) (fetched count w.error Err) (cons count spawn [] low (nil count))))
  within (pipe left right) i w n next low few =
      let a = list_of_subtree {E = E} {H = H} i (with_output (slot (n + 1)) w) left (n + 2) next in
      let b = list_of_subtree {E = E} {H = H} i (with_input (slot n) w) right (n + 1) (next + length a.scopes) in
      let all = length-append a.scopes b.scopes in
      let one = within left i (with_output (slot (n + 1)) w) (n + 2) next low (omega (arith, few, all)) in
      let two = within right i (with_input (slot n) w) (n + 1) (next + length a.scopes) low (omega (arith, few, all)) in
      cons count action.pipe (a.actions ++ (action.close ∷ (b.actions ++ action.close ∷ []))) tt (join count a.actions (action.close ∷ (b.actions ++ action.close ∷ [])) one (closed count action.close b.actions tt two))
  within (around modifier inner) i w n next low few =
      let r = row modifier in
      wrapped_within count r.opens _
      (within_row r.says i next (sources_inside r n w) inner (depth_inside r.opens n) low few (within inner))

-- the same for the list of a whole tree
pub listed_within : {E H : Type 0} (tree : TreeView E H)
    → All (λ act. IsWithin (length (list_of tree).scopes) act) (list_of tree).actions
listed_within {E} {H} tree = within (length (list_of tree).scopes) tree 0 root_sources 0 1 (omega arith) (omega arith)

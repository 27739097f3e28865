-- The list of a tree starts what its shape counts: a child for each command, and an input worker for
-- each input.
use Rattle.std.proofs.Common.{◌≡◌, ℕ, ◌+◌, Bool, true, false, List, [], ◌∷◌, ◌++◌, length, refl, ap, sym, ◌∙◌, arith, cond, ◌||◌}
use Rattle.std.proofs.lemmas.List.Sums.{sum_by-append, sum_by-cons}
use Rattle.duct_system.specs.declared.spec.Stream.{Stream}
use Rattle.duct_system.specs.declared.spec.Stream.TheVariants.{In, Out, Err}
use Rattle.duct_system.specs.declared.system.Side.{Side}
use Rattle.duct_status.specs.ShapeView.{ShapeView, command_count, input_count}
use Rattle.duct_run.specs.Actions as action
use Rattle.duct_run.specs.Actions.{ActionOf, PerStream, captures_in, is_capture}
use Rattle.duct_run.specs.ActionList.{list_of, list_of_subtree, next_index, scope_index}
use Rattle.duct_run.specs.RunContract.{tree_for}
use Rattle.duct_run.specs.declared.start.StartKind.{StartKind}
use Rattle.duct_run.specs.declared.start.StartKind.TheVariants.{Draining, Reading}
use Rattle.duct_run.specs.Flat.{StreamSource, parents, nothing, slot, captured, lent, command_actions, depth_inside, ports_at, root_sources, source_actions, sources_inside, actions_around, with_input, with_output}
use Rattle.duct_start.specs.Row.{RowOpening, opens_nothing, opens_input, opens_read, opens_create, opens_capture, row}
use Rattle.duct_start.specs.ShapeOfTree.{shape_around, shape_of_tree}
use Rattle.duct_start.specs.TreeView.{ModifierView, TreeView, command, pipe, around, stdin_bytes, unchecked}
use Rattle.duct_tree.specs.ActionCounts.{feed_count, is_feed, is_spawn, spawn_count}

swapped : (a b c : Bool) → (a || (b || c)) ≡ (b || (a || c))
swapped true true c = refl
swapped true false c = refl
swapped false true c = refl
swapped false false c = refl

-- a capture is opened by a list if the last action opens it, or one before
pub captures_push : {E K : Type 0} (which : Side) (actions : List (ActionOf E K)) (last : ActionOf E K)
    → captures_in which (actions ++ last ∷ []) ≡ (is_capture which last || captures_in which actions)
captures_push which [] last = refl
captures_push which (first ∷ actions) last =
    ap (λ b. is_capture which first || b) (captures_push which actions last)
    ∙ swapped (is_capture which first) (is_capture which last) (captures_in which actions)

-- so the flag that notes it is right after the push
pub captures_noted : {E : Type 0} (which : Side) (before after : Bool) (actions more : List (ActionOf E ℕ)) (last : ActionOf E ℕ)
    → before ≡ captures_in which actions → after ≡ (is_capture which last || before) → more ≡ actions ++ last ∷ []
    → after ≡ captures_in which more
captures_noted which before after actions more last was noted pushed =
    noted ∙ ap (λ b. is_capture which last || b) was ∙ sym (ap (λ l. captures_in which l) pushed ∙ captures_push which actions last)

-- the counts after the push
pub spawns_push : {E : Type 0} (before one after : ℕ) (actions more : List (ActionOf E ℕ)) (last : ActionOf E ℕ)
    → before ≡ spawn_count actions → one ≡ spawn_count (last ∷ []) → after ≡ before + one → more ≡ actions ++ last ∷ []
    → after ≡ spawn_count more
spawns_push before one after actions more last was starts sum pushed =
    omega (arith, was, starts, sum, sum_by-append (λ x. cond (is_spawn x) 1 0) actions (last ∷ []), ap (λ l. spawn_count l) pushed)

pub feeds_push : {E : Type 0} (before one after : ℕ) (actions more : List (ActionOf E ℕ)) (last : ActionOf E ℕ)
    → before ≡ feed_count actions → one ≡ feed_count (last ∷ []) → after ≡ before + one → more ≡ actions ++ last ∷ []
    → after ≡ feed_count more
feeds_push before one after actions more last was starts sum pushed =
    omega (arith, was, starts, sum, sum_by-append (λ x. cond (is_feed x) 1 0) actions (last ∷ []), ap (λ l. feed_count l) pushed)

-- this many commands and input workers are started by these actions
pub record Starts {E K : Type 0} (commands inputs : ℕ) (actions : List (ActionOf E K)) : Type 0 where
  pub spawns : spawn_count actions ≡ commands
  pub feeds : feed_count actions ≡ inputs

-- actions around others start an input worker if an input is opened
abbrev feeds_of : RowOpening → ℕ
feeds_of opens_nothing = 0
feeds_of (opens_input bytes) = 1
feeds_of (opens_read path) = 0
feeds_of (opens_create path) = 0
feeds_of (opens_capture which) = 0

module _ {E : Type 0} where
  starts_both : {a b c d : ℕ} (xs ys : List (ActionOf E ℕ)) → Starts a b xs → Starts c d ys
      → Starts (a + c) (b + d) (xs ++ ys)
  starts_both xs ys one other = record {
    spawns = omega (arith, sum_by-append (λ x. cond (is_spawn x) 1 0) xs ys, one.spawns, other.spawns);
    feeds = omega (arith, sum_by-append (λ x. cond (is_feed x) 1 0) xs ys, one.feeds, other.feeds);
  }

  starts_as : {a b c d : ℕ} (xs : List (ActionOf E ℕ)) → a ≡ c → b ≡ d → Starts a b xs
      → Starts c d xs
  starts_as xs one other starts = record { spawns = starts.spawns ∙ one; feeds = starts.feeds ∙ other }

  fetches_none : (source : StreamSource E) (stream : Stream)
      → Starts 0 0 (source_actions {E = E} {K = ℕ} source stream)
  fetches_none nothing stream = record { spawns = refl; feeds = refl }
  fetches_none (slot depth) stream = record { spawns = refl; feeds = refl }
  fetches_none (captured which) stream = record { spawns = refl; feeds = refl }
  fetches_none (lent end) stream = record { spawns = refl; feeds = refl }
  fetches_none (parents In) stream = record { spawns = refl; feeds = refl }
  fetches_none (parents Out) In = record { spawns = refl; feeds = refl }
  fetches_none (parents Out) Out = record { spawns = refl; feeds = refl }
  fetches_none (parents Out) Err = record { spawns = refl; feeds = refl }
  fetches_none (parents Err) In = record { spawns = refl; feeds = refl }
  fetches_none (parents Err) Out = record { spawns = refl; feeds = refl }
  fetches_none (parents Err) Err = record { spawns = refl; feeds = refl }

  starts_command : (i : ℕ) (w : PerStream (StreamSource E)) (words : List (List ℕ))
      → Starts 1 0 (command_actions {E = E} {K = ℕ} i w words)
  starts_command i w words =
      let last : List (ActionOf E ℕ) = action.spawn i words (ports_at w) ∷ [] in
      let error : List (ActionOf E ℕ) = source_actions w.error Err ++ last in
      let output : List (ActionOf E ℕ) = source_actions w.output Out ++ error in
      let one : Starts 1 0 last = record { spawns = refl; feeds = refl } in
      starts_both (source_actions w.input In) output (fetches_none w.input In)
      (starts_both (source_actions w.output Out) error (fetches_none w.output Out)
      (starts_both (source_actions w.error Err) last (fetches_none w.error Err) one))

  none_first : (first : ActionOf E ℕ) (xs : List (ActionOf E ℕ)) {a b : ℕ} → is_spawn first ≡ false
      → is_feed first ≡ false → Starts a b xs → Starts a b (first ∷ xs)
  none_first first xs spawn feed starts = record {
    spawns = omega (arith, sum_by-cons (λ x. cond (is_spawn x) 1 0) first xs, ap (λ b. cond {A = ℕ} b 1 0) spawn, starts.spawns);
    feeds = omega (arith, sum_by-cons (λ x. cond (is_feed x) 1 0) first xs, ap (λ b. cond {A = ℕ} b 1 0) feed, starts.feeds);
  }

  starts_around : (opens : RowOpening) (inside : List (ActionOf E ℕ)) {a b : ℕ} → Starts a b inside
      → Starts a (b + feeds_of opens) (actions_around opens inside)
  starts_around opens_nothing inside starts = starts_as inside refl (omega arith) starts
  starts_around (opens_input bytes) inside starts =
      let last : List (ActionOf E ℕ) = action.close ∷ action.feed bytes ∷ [] in
      starts_as _ (omega arith) refl (none_first action.input (inside ++ last) refl refl (starts_both inside last starts (record { spawns = refl; feeds = refl })))
  starts_around (opens_read path) inside starts =
      let last : List (ActionOf E ℕ) = action.close ∷ [] in
      starts_as _ (omega arith) refl (none_first (action.open_read path) (inside ++ last) refl refl (starts_both inside last starts (record { spawns = refl; feeds = refl })))
  starts_around (opens_create path) inside starts =
      let last : List (ActionOf E ℕ) = action.close ∷ [] in
      starts_as _ (omega arith) refl (none_first (action.create path) (inside ++ last) refl refl (starts_both inside last starts (record { spawns = refl; feeds = refl })))
  starts_around (opens_capture which) inside starts =
      starts_as _ refl (omega arith) (none_first (action.capture which) inside refl refl starts)

module _ {E H : Type 0} where
  -- a modifier adds no command, and an input if it opens one
  commands_around : (modifier : ModifierView E H) (shape : ShapeView)
      → command_count shape ≡ command_count (shape_around modifier shape)
  commands_around (stdin_bytes bytes) shape = refl
  commands_around unchecked shape = refl
  commands_around modifier shape = refl

  inputs_around : (modifier : ModifierView E H) (shape : ShapeView)
      → input_count shape + feeds_of (row modifier).opens ≡ input_count (shape_around modifier shape)
  inputs_around (stdin_bytes bytes) shape = refl
  inputs_around unchecked shape = omega arith
  inputs_around modifier shape = omega arith

  starts_subtree : (tree : TreeView E H) (i : ℕ) (w : PerStream (StreamSource E)) (n next : ℕ)
      → Starts (command_count (shape_of_tree tree)) (input_count (shape_of_tree tree)) (list_of_subtree i w tree n next).actions
  starts_subtree (command words) i w n next = starts_command i w words
  starts_subtree (pipe left right) i w n next =
      let a = list_of_subtree {E = E} {H = H} i (with_output (slot (n + 1)) w) left (n + 2) next in
      let b = list_of_subtree {E = E} {H = H} i (with_input (slot n) w) right (n + 1) (next + length a.scopes) in
      let last : List (ActionOf E ℕ) = action.close ∷ [] in
      let second = starts_subtree right i (with_input (slot n) w) (n + 1) (next + length a.scopes) in
      let first = starts_subtree left i (with_output (slot (n + 1)) w) (n + 2) next in
      let closed = starts_both b.actions last second (record { spawns = refl; feeds = refl }) in
      let opened = starts_both a.actions (action.close ∷ (b.actions ++ last)) first (none_first action.close (b.actions ++ last) refl refl closed) in
      starts_as _ (omega arith) (omega arith) (none_first action.pipe _ refl refl opened)
  starts_subtree (around modifier inner) i w n next =
      let r = row modifier in
      let inside = starts_subtree inner (scope_index r.says i next) (sources_inside r n w) (depth_inside r.opens n) (next_index r.says next) in
      starts_as _ (commands_around modifier (shape_of_tree inner)) (inputs_around modifier (shape_of_tree inner)) (starts_around r.opens _ inside)

  -- the list for such a start of a tree starts what the shape of the tree counts
  pub list_starts : (kind : StartKind) (tree : TreeView E H)
      → Starts (command_count (shape_of_tree tree)) (input_count (shape_of_tree tree)) (list_of (tree_for kind tree)).actions
  list_starts Draining tree = starts_subtree tree 0 root_sources 0 1
  list_starts Reading tree = starts_subtree (tree_for Reading tree) 0 root_sources 0 1

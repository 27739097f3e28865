-- The run of the list of a tree is the start of the tree, whichever kind of start it is.
use Rattle.std.proofs.Common.{◌≡◌, Bool, ◌+◌, ◌*◌, ◌∙◌, List, [], length, refl, sym, is_some}
use Rattle.std.proofs.lemmas.List.{length-map}
use Rattle.duct_base.specs.Pool.{PoolView}
use Rattle.duct_system.specs.declared.error.Error.{Error}
use Rattle.duct_system.specs.declared.error.Error.TheVariants.{Memory}
use Rattle.duct_status.specs.ShapeView.{command_count, input_count, shape_view}
use Rattle.duct_status.specs.declared.status.Shape.{Shape}
use Rattle.duct_run.specs.Actions.{Action, with_plan}
use Rattle.duct_start.specs.Chain.{Allows, Refuses}
use Rattle.duct_run.specs.Flat.{actions_of}
use Rattle.duct_start.specs.Plan.{initial_plan, plan_of_subtree}
use Rattle.duct_run.specs.Requested.{HoldsUnasked, RunGivesUp, RunSucceeds, resources_of}
use Rattle.duct_run.specs.RunContract.{HaveWorkers, context_of, drains_if_open, tail_for, tree_for}
use Rattle.duct_run.specs.RunInvariant.{RunInvariant}
use Rattle.duct_start.specs.ShapeOfTree.{shape_of_tree}
use Rattle.duct_start.specs.Start.{StartSucceeds, depth}
use Rattle.duct_run.proofs.Ceiling.{ceiling}
use Rattle.duct_start.specs.TreeView.{TreeView}
use Rattle.duct_run.proofs.Counted.{started_counts}
use Rattle.duct_run.proofs.Launched.{drained_items, drained_pipes, invariant_launched, launched, list_leads, read_items, read_pipe, refused_launched, unasked_launch}
use Rattle.duct_run.proofs.Leaving.{leaves_unasked}
use Rattle.duct_system.specs.SystemViews.{SystemViews}
use Rattle.duct_run.specs.declared.resources.Resources.{Resources}
use Rattle.duct_run.proofs.GivenUp.{given_up, left_started}
use Rattle.duct_run.proofs.New.{run, runs_started}
use Rattle.duct.specs.Launched.{LaunchRefused, Runs, StartKind, added_between, drains_error, drains_output, draining, plan_for, reading}
use Rattle.duct.specs.TreeView.{tree_view}
use Rattle.duct.specs.declared.expression.Expression.{Expression}

module _ {E H : Type 0} (tree : TreeView E H) where
  -- the plan of a start is that of its list, with its tail
  same_items : (kind : StartKind) → (tail_for kind (plan_of_subtree [] (tree_for kind tree) initial_plan)).items
      ≡ (plan_for kind tree).items
  same_items draining = drained_items (plan_of_subtree [] tree initial_plan)
  same_items reading = read_items (plan_of_subtree [] (tree_for reading tree) initial_plan)

  -- and tells which capture pipes get a worker
  pub same_pipes : (kind : StartKind)
      → (drains_if_open kind (is_some (plan_of_subtree [] (tree_for kind tree) initial_plan).pipes.out) ≡ drains_output kind tree)
      × (is_some (plan_of_subtree [] (tree_for kind tree) initial_plan).pipes.err ≡ drains_error kind tree)
  same_pipes draining = drained_pipes (plan_of_subtree [] tree initial_plan)
  same_pipes reading = (refl, read_pipe (plan_of_subtree [] (tree_for reading tree) initial_plan))

module _ {S E H C F D V W : Type 0} (views : SystemViews S E C F D V W) (kind : StartKind) (root : Expression E H)
    {actions : List (Action E H)} (same : actions ≡ actions_of (tree_for kind (tree_view root))) where
  -- which capture pipes have a worker
  pub workers : (allows : Allows H) {output error : Bool} → HaveWorkers kind views.number_of actions output error
      → (output ≡ drains_output kind (tree_view root)) × (error ≡ drains_error kind (tree_view root))
  workers allows have =
      let tree = tree_view root in
      let pipes = have (ceiling views.number_of tree) (2 * depth tree + 4) (plan_of_subtree [] (tree_for kind tree) initial_plan) (list_leads allows views.number_of kind tree actions same) in
      (pipes.0 ∙ (same_pipes tree kind).0, pipes.1 ∙ (same_pipes tree kind).1)

  -- the run failed, and gave up its resources
  pub gave_up : {allows : Allows H} {refuses : Refuses H} {sys after : S} {before left : PoolView C} {error : Error}
      → RunGivesUp views allows refuses (tail_for kind) actions sys after before left error
      → LaunchRefused views allows refuses kind root sys after before left error
  gave_up {allows} {refuses} {sys} {after} {before} {left} {error} gives =
      let tree = tree_view root in
      let old = views.journal sys in
      let next = views.journal after in
      let stopped = refused_launched allows views.number_of kind tree actions same refuses old gives.stopped (resources_of views gives.held) error gives.refused in
      record {
        asked = given_up allows refuses views.number_of views.child views.feed views.drain _ _ gives.stopped gives.held error stopped next gives.closes tree (plan_for kind tree) refl refl (sym (same_items tree kind));
        given = left_started allows refuses views.number_of views.child views.feed views.drain _ _ gives.stopped gives.held error stopped next gives.closes views.may_answer before gives.swept left gives.new gives.leaves gives.given;
      }

  -- the run succeeded, and left these resources
  module _ {allows : Allows H} {sys after : S} (kept : Resources E C F D) (runs : RunSucceeds views allows (tail_for kind) actions sys after kept) where
    pub asked : StartSucceeds allows views.number_of (tree_view root) (plan_for kind (tree_view root)) (views.journal sys) (views.journal after)
    asked = launched allows views.number_of kind (tree_view root) actions same (plan_for kind (tree_view root)) (same_items (tree_view root) kind) (views.journal sys) (views.journal after) (resources_of views kept) runs

    invariant : RunInvariant allows views.number_of (context_of (views.journal sys) (ceiling views.number_of (tree_view root)) (2 * depth (tree_view root) + 4) runs.0)
        (with_plan (tail_for kind (plan_of_subtree [] (tree_for kind (tree_view root)) initial_plan))) (views.journal after) (resources_of views kept)
    invariant = invariant_launched allows views.number_of kind (tree_view root) actions same (views.journal sys) (views.journal after) (resources_of views kept) runs

    pub started_children : length kept.children.items ≡ command_count (shape_of_tree (tree_view root))
    started_children = sym (length-map kept.children.items _) ∙ (started_counts allows views.number_of _ _ _ kind (tree_view root) invariant).0

    pub started_feeds : length kept.feeds.items ≡ input_count (shape_of_tree (tree_view root))
    started_feeds = sym (length-map kept.feeds.items _) ∙ (started_counts allows views.number_of _ _ _ kind (tree_view root) invariant).1

    pub made : (new : HoldsUnasked views kept) (shape : Shape) (seen : shape_view shape ≡ shape_of_tree (tree_view root))
        → HaveWorkers kind views.number_of actions (is_some kept.drains.out) (is_some kept.drains.err)
        → Runs views (run views.child views.feed views.drain views.number_of (tree_view root) shape kept new seen) kind (tree_view root) (added_between views sys after)
    made new shape seen have =
        let pipes = workers allows have in
        rw (← pipes.0, ← pipes.1) (runs_started views.child views.feed views.drain views.number_of (tree_view root) shape kept new seen allows _ _ (views.journal after) invariant)

-- a start that failed on an allocation before its first request: it asked for nothing, and the pool
-- is as before
pub refused_unasked : {S E H C F D V W : Type 0} {views : SystemViews S E C F D V W} {allows : Allows H}
    {refuses : Refuses H} {kind : StartKind} {root : Expression E H} {sys : S} {pool : PoolView C}
    → LaunchRefused views allows refuses kind root sys sys pool pool Memory
refused_unasked {views = views} {allows = allows} {refuses = refuses} {kind = kind} {root = root} {sys = sys} {pool = pool} = record {
  asked = unasked_launch allows refuses views.number_of (tree_view root) (plan_for kind (tree_view root)) (views.journal sys);
  given = leaves_unasked views.may_answer views.child (views.journal sys).entries pool;
}

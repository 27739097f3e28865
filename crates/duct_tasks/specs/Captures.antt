-- What a run returns whose output is kept, with the ending of each of its commands.
use Rattle.std.specs.Prelude.{◌⊎◌, ◌≡◌, map, Err, Result}
use Rattle.duct_base.specs.Pool.{PoolView}
use Rattle.duct_system.specs.SystemViews.{SystemViews}
use Rattle.duct_system.specs.declared.error.Error.{Error}
use Rattle.duct_system.specs.declared.error.Error.TheVariants.{Memory}
use Rattle.duct_status.specs.ReplyView.{answered}
use Rattle.duct_start.specs.Chain.{Allows, Refuses}
use Rattle.duct_start.specs.Running.{RunningView}
use Rattle.duct_start.specs.ShapeOfTree.{shape_of_tree}
use Rattle.duct_start.specs.TreeView.{TreeView, around, stderr_capture, stdout_capture, unchecked}
use Rattle.duct_running.specs.Stored.{Bytes, stored_in}
use Rattle.duct_handle.specs.Finished.{StoresReply}
use Rattle.duct.specs.Launched.{Fails, IsCall, MadeBy, Ran, draining}
use Rattle.duct.specs.TreeView.{tree_view}
use Rattle.duct.specs.declared.expression.Expression.{Expression}
use Rattle.duct_tasks.specs.Statuses.{command_view, commands_in, with_reports}
use Rattle.duct_tasks.specs.declared.capture.Captured.{Captured}

-- the tree with both streams captured, whose failure is no error
abbrev pub with_captures : {E H : Type 0} → TreeView E H → TreeView E H
with_captures tree = around unchecked (around stderr_capture (around stdout_capture tree))

module _ {S E C F D : Type 0} (views : SystemViews S E C F D (Unit {0}) Bytes) {H : Type 0} where
  -- this output is the outcome of what the children and workers of the start store, and the tree's
  -- commands are there, each with the ending that its child stores
  abbrev pub ReturnsEach : Captured → MadeBy E H
  ReturnsEach captured kind tree added =
      (waited : RunningView C F D) × Ran views waited kind tree added
      × StoresReply views waited (answered captured.output.status captured.output.stdout.items
      captured.output.stderr.items)
      × (map command_view captured.commands.items ≡ with_reports (commands_in (shape_of_tree tree))
      (stored_in views.child views.feed views.drain waited).commands)

module _ {S E C F D : Type 0} (views : SystemViews S E C F D (Unit {0}) Bytes) {H : Type 0}
    (allows : Allows H) (refuses : Refuses H) (root : Expression E H) where
  -- what `Expression::run` promises, of the expression with both streams captured, and how each of
  -- its commands ended; or there was no memory for its nodes or the list of its commands, and
  -- nothing was done
  abbrev pub IsRunCaptured : S × PoolView C → Result Captured Error → S × PoolView C → Type 0
  IsRunCaptured before result after =
      ((inside : Expression E H) × (tree_view inside ≡ with_captures (tree_view root))
      × IsCall views allows refuses inside draining (ReturnsEach views) (Fails
      views) before result after)
      ⊎ ((result ≡ Err Memory) × (after.0 ≡ before.0) × (after.1 ≡ before.1))

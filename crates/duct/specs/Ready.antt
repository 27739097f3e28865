-- What a start allocates before its first request.
use Rattle.std.specs.Arc.{arc_value}
use Rattle.std.specs.Prelude.{◌≡◌, []}
use Rattle.duct_status.specs.CoreView.{latest_in, shape_in}
use Rattle.duct_status.specs.Latest.{latest_told}
use Rattle.duct_status.specs.ShapeView.{shape_view}
use Rattle.duct_run.specs.ActionList.{list_of}
use Rattle.duct_start.specs.ShapeOfTree.{shape_of_tree}
use Rattle.duct_start.specs.TreeView.{TreeView}
use Rattle.duct_run.specs.ResourcesView.{IsEmpty}
use Rattle.duct_run.specs.RunContract.{tree_for}
use Rattle.duct_running.specs.RunningInvariant.{FitsShape}
use Rattle.duct_tree.specs.ActionListView.{action_list_view}
use Rattle.duct.specs.Launched.{StartKind, drains_error, drains_output}
use Rattle.duct.specs.declared.start.Ready.{Ready}

-- the list for this kind of start of a tree, and the tree's shape; a core of that shape that was
-- told nothing, with room that fits its shape, and nothing held
pub record IsReadyStart {E H C F D : Type 0} (kind : StartKind) (tree : TreeView E H)
    (ready : Ready E H C F D) : Type 0 where
  pub list : action_list_view ready.compiled.list ≡ list_of (tree_for kind tree)
  pub shape : shape_view (arc_value ready.compiled.shape) ≡ shape_of_tree tree
  pub shape_is : shape_in ready.core ≡ shape_of_tree tree
  pub silent : latest_in ready.core ≡ latest_told (shape_in ready.core)
      (record { out = drains_output kind tree; err = drains_error kind tree }) []
  pub fits : FitsShape (shape_in ready.core) ready.room
  pub nothing : IsEmpty ready.held

-- The counts of the list are those of the shape.
use Rattle.std.proofs.Common.{◌≡◌, ap, sym, ◌∙◌, rules}
use Rattle.std.specs.Arc.{arc_value}
use Rattle.duct_status.specs.ShapeView.{command_count, input_count, shape_view}
use Rattle.duct_run.specs.ActionList.{list_of}
use Rattle.duct_run.specs.RunContract.{tree_for}
use Rattle.duct_start.specs.ShapeOfTree.{shape_of_tree}
use Rattle.duct_tree.specs.ActionCounts.{feed_count, spawn_count}
use Rattle.duct_tree.specs.ActionListView.{action_list_view}
use Rattle.duct_tree.specs.NodeView.{node_view}
use Rattle.duct_tree.proofs.Counts.{list_starts}
use Rattle.duct_tree.proofs.compile.compile.Goals as goal

pub invariant_of-result : goal.invariant_of-result
invariant_of-result g c =
    let tree = node_view c.args.root.now in
    let list : action_list_view c.walk.new.list ≡ list_of (tree_for c.args.kind tree) = search rules in
    let shape : shape_view (arc_value c.in_ok-shape-2.shape) ≡ shape_of_tree tree = search rules in
    let starts = list_starts c.args.kind tree in
    record {
      commands_counted = c.walk.new.list.commands_counted ∙ ap (λ l. spawn_count l.actions) list ∙ starts.spawns ∙ ap (λ s. command_count s) (sym shape);
      inputs_counted = c.walk.new.list.inputs_counted ∙ ap (λ l. feed_count l.actions) list ∙ starts.feeds ∙ ap (λ s. input_count s) (sym shape);
    }

-- The tree of an expression, as contracts see it.
use Rattle.std.specs.Arc.{arc_value}
use Rattle.duct_start.specs.TreeView.{TreeView}
use Rattle.duct_tree.specs.NodeView.{node_view}
use Rattle.duct.specs.declared.expression.Expression.{Expression}

-- the tree of an expression
abbrev pub tree_view : {E H : Type 0} → Expression E H → TreeView E H
tree_view expression = node_view (arc_value expression.root)

-- The remaining redirections around the tree so far are all redirections around the command.
use Rattle.std.proofs.Common.{◌≡◌, map, vec_len}
use Rattle.duct.specs.TreeView.{tree_view}
use Rattle.duct_program.specs.Line.{redirection_view, redirected_tree}
use Rattle.duct_program.proofs.expression.redirected_by.Given as goal

abbrev pub invariant-loop-redirection : goal.invariant-loop-redirection
invariant-loop-redirection g l =
    redirected_tree (map redirection_view l.left.items) (tree_view l.inner)
    ≡ redirected_tree (map redirection_view l.initial.left.items) (tree_view l.initial.inner)

abbrev pub decreases-loop-redirection : goal.decreases-loop-redirection
decreases-loop-redirection g l = vec_len l.left

-- The root prints the promised text.
use Rattle.duct_tree.specs.NodeView.{node_view, tree_form}
use Rattle.duct_status.specs.Form.{form_text, is_form_printable, printed}
use Rattle.duct_status.proofs.Printing.{form_prints, displays_if}
use Rattle.duct.proofs.expression.debug.ExpressionDebug.fmt.Goals as goal

pub returns : goal.returns
returns g c =
    let form = tree_form (node_view c.root.result.now) in
    let writes = displays_if _ _ _ _ (is_form_printable form) (printed form) (form_text form) (form_prints form) c.fmt.ensures.writes in
    record { writes = rw (← c.root.ensures) writes }

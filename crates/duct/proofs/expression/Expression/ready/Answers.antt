-- What a start of this kind needs.
use Rattle.std.proofs.Common.{◌≡◌, ◌∙◌, [], ap, rules}
use Rattle.std.specs.Arc.{arc_value}
use Rattle.duct_status.specs.CoreView.{latest_in, shape_in}
use Rattle.duct_status.specs.Latest.{latest_told}
use Rattle.duct_status.specs.ShapeView.{shape_view}
use Rattle.duct_system.specs.declared.system.Side.TheVariants as side
use Rattle.duct_run.specs.ActionList.{list_of}
use Rattle.duct_run.specs.RunContract.{drains_if_open, tree_for}
use Rattle.duct_start.specs.ShapeOfTree.{shape_of_tree}
use Rattle.duct_tree.specs.ActionListView.{action_list_view}
use Rattle.duct.specs.Launched.{drains_error, drains_output}
use Rattle.duct.specs.TreeView.{tree_view}
use Rattle.duct.proofs.Launching.{same_pipes}
use Rattle.duct.proofs.Starting.{captured}
use Rattle.duct.proofs.expression.Expression.ready.Goals as goal

pub returns-clause-ready : goal.returns-clause-ready
returns-clause-ready g c =
    let kind = c.args.kind in
    let tree = tree_view c.args.self.now in
    let compiled = c.in_ok-compiled.compiled in
    let list_is : action_list_view compiled.list ≡ list_of (tree_for kind tree) = c.in_ok-compiled.ensures.list ∙ ap (λ t. list_of (tree_for kind t)) c.root.ensures in
    let shape_is : shape_view (arc_value compiled.shape) ≡ shape_of_tree tree = c.in_ok-compiled.ensures.shape ∙ ap (λ t. shape_of_tree t) c.root.ensures in
    let opens = captured (tree_for kind tree) compiled.list.actions.items (ap (λ l. l.actions) list_is) in
    let pipes = same_pipes tree kind in
    let out : drains_if_open kind compiled.list.captures.out ≡ drains_output kind tree = ap (λ b. drains_if_open kind b) (compiled.list.output_noted ∙ opens side.Out) ∙ pipes.0 in
    let err : compiled.list.captures.err ≡ drains_error kind tree = compiled.list.error_noted ∙ opens side.Err ∙ pipes.1 in
    let silent : latest_in c.in_ok-core.core ≡ latest_told (shape_in c.in_ok-core.core) c.drained-drains.result [] = search rules in
    record {
      list = list_is;
      shape = shape_is;
      shape_is = search (rules, shape_is);
      silent = silent ∙ ap (λ d. latest_told (shape_in c.in_ok-core.core) d []) c.drained-drains.ensures ∙ (λ i. latest_told (shape_in c.in_ok-core.core) (record { out = out i; err = err i }) []);
      fits = search rules;
      nothing = search rules;
    }

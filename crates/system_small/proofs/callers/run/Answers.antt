use Rattle.std.proofs.lemmas.Result.{IfOk-weaker}
use Rattle.duct.specs.TreeView.{tree_view}
use Rattle.duct_handle.proofs.Finishing.{was_concluded}
use Rattle.system_small.proofs.Results.{ran}
use Rattle.system_small.proofs.callers.run.Goals as goal

pub returns : goal.returns
returns g c =
    IfOk-weaker c.run.result _ _ (λ output launched.
    let m = launched.makes in
    ran (tree_view c.args.expression.now) _ _ _ output m.1.shape_is m.1.numbers_are (was_concluded _ m.0 _ m.2)) c.run.ensures.output

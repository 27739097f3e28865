use Rattle.std.proofs.Common.{◌∙◌, ap}
use Rattle.std.proofs.lemmas.Result.{IfOk-weaker}
use Rattle.duct_handle.proofs.Finishing.{was_concluded}
use Rattle.duct_start.specs.ShapeOfTree.{shape_of_tree}
use Rattle.system_small.proofs.Results.{never_was, prints}
use Rattle.system_small.proofs.callers.read.Goals as goal

pub returns : goal.returns
returns g c = record {
  text = IfOk-weaker c.read.result _ _ (λ text launched.
      let has = launched.makes.2.2 in prints _ has.0 text launched.makes.2.1.3 has.1 has.2) c.read.ensures.text;
  failing = λ words is. IfOk-weaker c.read.result _ _ (λ text launched.
      let m = launched.makes in
      let well = m.2.2.3 in
      never_was _ _ _ _ _ (was_concluded _ m.0 _ well.3) words (m.1.shape_is ∙ ap shape_of_tree is)) c.read.ensures.text;
}

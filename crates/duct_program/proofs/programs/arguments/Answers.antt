-- What is left after one item is skipped is collected.
use Rattle.std.proofs.Common.{ℕ, Ok, ap, ◌∙◌}
use Rattle.std.proofs.lemmas.Iterator.{items_from_collect}
use Rattle.std.proofs.lemmas.Iterator.Adapters.{YieldsList-from_skip, YieldsList-from_vec}
use Rattle.std.specs.Vec.Iter.{into_iter_items, into_iter_len}
use Rattle.duct_program.proofs.programs.arguments.Goals as goal

pub returns : goal.returns
returns c =
    let source = c.skip.ensures.source in
    items_from_collect {E = ℕ} (Ok c.in_ok-collect.field-0) c.in_ok-collect.ensures.ran
    (YieldsList-from_skip 1 (YieldsList-from_vec (into_iter_items c.args.all) (ap into_iter_items source)
    (ap into_iter_len source ∙ c.args.all.rest.ok.0)) c.skip.ensures.count)

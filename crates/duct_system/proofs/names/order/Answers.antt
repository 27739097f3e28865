use Rattle.std.proofs.Common.{◌∙◌, sym, arith}
use Rattle.duct_system.proofs.NameOrder.{finished}
use Rattle.duct_system.proofs.names.order.Goals as goal

pub returns : goal.returns
returns c =
    let xs = c.args.one.now in
    let ys = c.args.other.now in
    c.cmp.ensures ∙ finished xs ys c.loop-i.i (let ended = c.loop-i-test.false in let shorter = c.min-both.ensures in omega arith)
    ∙ sym c.loop-i.invariant

use Rattle.std.proofs.Common.{arith}
use Rattle.duct_replay.proofs.Judging.{same_more}
use Rattle.duct_replay.proofs.judgement.first_difference.Goals as goal

pub loop-place-preserved : goal.loop-place-preserved
loop-place-preserved c =
    let same = same_more c.args.recorded.now c.args.made.now c.loop-place.place c.index-recorded-place.result c.index-made-place.result
    c.loop-place-test.true c.if-place-made.true c.index-recorded-place.is c.index-made-place.is
    (c.in_ok-is_same.ensures.0 c.if-not-branch.false) c.loop-place.invariant.1.1 in
    (omega arith, (omega arith, same))

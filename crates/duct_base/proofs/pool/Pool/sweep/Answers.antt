use Rattle.std.proofs.Common.{arith, length, ◌<◌, ◌≤◌}
use Rattle.duct_base.proofs.Sieving.{sweep_begins, sweep_goes_on, sweep_ends, some_left}
use Rattle.duct_base.proofs.pool.Pool.sweep.Goals as goal

pub loop-done-init : goal.loop-done-init
loop-done-init g c = sweep_begins _ _ _

pub sweep_first-requires : goal.sweep_first-requires
sweep_first-requires g c =
    let within : c.loop-done._done < length c.args.self.now.children = omega (arith, c.loop-done-test.true, c.len-count.ensures.length) in
    some_left _ _ _ _ _ c.loop-done.invariant within

pub loop-done-preserved : goal.loop-done-preserved
loop-done-preserved g c =
    let within : c.loop-done._done < length c.args.self.now.children = omega (arith, c.loop-done-test.true, c.len-count.ensures.length) in
    sweep_goes_on _ _ _ _ _ c.loop-done.invariant within _ c.sweep_first.ensures

pub returns : goal.returns
returns g c =
    let done : length c.args.self.now.children ≤ c.loop-done._done = omega (arith, c.loop-done-test.false, c.len-count.ensures.length) in
    sweep_ends _ _ _ _ _ c.loop-done.invariant done

use Rattle.duct_base.proofs.Sieving.{Sweeps}
use Rattle.duct_base.proofs.pool.Pool.sweep.Given as goal

abbrev pub invariant-loop-done : goal.invariant-loop-done
invariant-loop-done g l = Sweeps g.C.Child.may_answer g.C.Child.child_view l._done l.fn.self l.self

-- One more child is given.
use Rattle.std.proofs.Common.{arith}
use Rattle.duct_run.proofs.Common.{common_steps}
use Rattle.duct_base.proofs.Taking.{given_next}
use Rattle.duct_run.proofs.ending.give_all.Goals as goal

pub loop-child-preserved : goal.loop-child-preserved
loop-child-preserved g c = record {
  given = given_next g.C.Child.may_answer g.C.Child.child_view c.loop-child.yielded c.in-Some.child _ _ _ c.loop-child.invariant.given c.pool_take.ensures;
  whole = grind (arith, common_steps);
  many = grind (arith, common_steps);
}

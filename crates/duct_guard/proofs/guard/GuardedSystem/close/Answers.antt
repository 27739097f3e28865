use Rattle.std.proofs.Common.{refl, arith}
use Rattle.duct_guard.proofs.Below.{one_asked}
use Rattle.duct_guard.proofs.Counting.{noted_one, notes}
use Rattle.duct_guard.proofs.Guarding.{passed}
use Rattle.duct_guard.proofs.guard.GuardedSystem.close.Goals as goal

pub invariant_of-self-inside : goal.invariant_of-self-inside
invariant_of-self-inside g c =
    (noted_one c.self.inside.keeps (passed _ _ _ _ _ refl c.close.ensures) (notes refl c.add.ensures (cc)) (omega arith) refl (rw c.number-number.ensures at c.spend.ensures), tt)

pub returns-clause-below : goal.returns-clause-below
returns-clause-below g c =
    one_asked _ _ _ _ _ _ c.self.view_is (passed _ _ _ _ _ refl c.close.ensures) (notes refl c.add.ensures (cc)) refl refl refl

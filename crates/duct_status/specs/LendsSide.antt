-- What a value for each of the two output streams is once one of them is no longer lent.
use Rattle.std.specs.Borrow.{Fml, RattleType, MutBor, Lends}
use Rattle.duct_system.specs.declared.system.Side.{Side}
use Rattle.duct_status.specs.PerSide.{with_side}
use Rattle.duct_status.specs.contracts.per_side.PerSide.{the_row}
use Rattle.duct_status.specs.declared.per_side.PerSide.{PerSide}

-- the value of this stream is the last one behind the result
abbrev pub LendsSide : (T : RattleType) → MutBor (PerSide T.Denot) → Side → MutBor T.Denot → Fml
LendsSide T both side r = Lends (the_row T) T both r (with_side both.now side)

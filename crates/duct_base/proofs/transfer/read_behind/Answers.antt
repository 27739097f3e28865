use Rattle.std.proofs.Common.{arith, length-take-le}
use borrow.Rule.Slice.PartMut.{take_put}
use Rattle.duct_base.proofs.Transfers.{read_in_place}
use Rattle.duct_base.proofs.transfer.read_behind.Goals as goal

pub returns-clause-front : goal.returns-clause-front
returns-clause-front g c = take_put _ _ c.args.buffer.now _ (omega (arith, c.requires.room))

pub returns-clause-ok : goal.returns-clause-ok
returns-clause-ok g c =
    read_in_place _ _ c.read.result _ c.read.new.buffer _ c.args.at
    (length-take-le _ c.args.buffer.now (omega (arith, c.requires.room)))
    c.read.ensures.bound c.read.ensures.ok

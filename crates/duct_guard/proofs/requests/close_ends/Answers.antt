-- The ends of the streams, one stream after the other.
use Rattle.std.proofs.Common.{rules}
use Rattle.duct_guard.proofs.Closing.{three_are, three_close}
use Rattle.duct_guard.proofs.requests.close_ends.Goals as goal

pub returns : goal.returns
returns g c =
    three_close g.S.End.Numbered.number_of _ c.args.io _ _ _ _ _ _ _ _ _ c.close_end-room.ensures.left c.close_end-room-2.ensures.left c.close_end-room.ensures.closes c.close_end-room-2.ensures.closes c.close_end.ensures.closes (search (rules, three_are))

use Rattle.std.proofs.Common.{◌≡◌, Ok}
use Rattle.duct_handle.proofs.Common.{shape_view, views_of, IsAnswer}
use Rattle.duct_handle.proofs.Closing.{closes_once, reads_once}
use Rattle.duct_handle.proofs.io.read_once.Goals as goal

pub returns-in-Ok-clause-ended : goal.returns-in-Ok-clause-ended
returns-in-Ok-clause-ended g c = λ nothing room.
    let views = views_of g.S.System g.S.End.Numbered g.S.Child.Child g.S.Feed.Job g.S.Drain.Job in
    let is = c.in-Ok.is in
    let closed : c.read_as.result ≡ Ok 0 = cc in
    closes_once (IsAnswer views (shape_view c.args.reader.now.shape) c.args.reader.now.numbers) _ _
    (reads_once views _ _ _ _ _ c.read_as.ensures.reads) closed room

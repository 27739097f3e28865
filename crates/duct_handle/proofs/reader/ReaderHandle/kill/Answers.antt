use Rattle.std.proofs.Common.{subst}
use Rattle.duct_handle.proofs.Common.{Kill, views_of, HandleView, IsObeyed}
use Rattle.duct_handle.proofs.reader.ReaderHandle.kill.Goals as goal

pub returns : goal.returns
returns g c =
    let views = views_of g.S.System g.S.End.Numbered g.S.Child.Child g.S.Feed.Job g.S.Drain.Job in
    subst (λ (h : HandleView). IsObeyed views Kill h.numbers.children c.kill.result) c.self.view_is c.kill.ensures

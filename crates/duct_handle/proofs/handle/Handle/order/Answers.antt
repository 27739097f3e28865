use Rattle.std.proofs.Common.{subst}
use Rattle.duct_handle.proofs.Common.{views_of, HandleView, IsObeyed}
use Rattle.duct_handle.proofs.handle.Handle.order.Goals as goal

pub returns : goal.returns
returns g c =
    let views = views_of g.S.System g.S.End.Numbered g.S.Child.Child g.S.Feed.Job g.S.Drain.Job in
    subst (λ (h : HandleView). IsObeyed views c.args.order h.numbers.children c.order-obeyed.result.0) c.self.view_is c.order-obeyed.ensures.obeyed

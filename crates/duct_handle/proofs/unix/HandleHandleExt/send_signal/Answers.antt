use Rattle.std.proofs.Common.{◌≡◌, rules, subst, to_z, of_z, w32}
use Rattle.duct_handle.proofs.Common.{Signal, views_of, IsObeyed}
use Rattle.duct_handle.proofs.unix.HandleHandleExt.send_signal.Goals as goal

pub returns : goal.returns
returns g c =
    let same : to_z w32 (of_z w32 c.args.signal) ≡ c.args.signal = search rules in
    let views = views_of g.S.System g.S.End.Numbered g.S.Child.Child g.S.Feed.Job g.S.Drain.Job in
    subst (λ s. IsObeyed views (Signal s) c.args.self.now.numbers.children c.order.result) same c.order.ensures

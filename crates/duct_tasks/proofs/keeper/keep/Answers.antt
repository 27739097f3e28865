use Rattle.duct_tasks.proofs.Common.{views_of}
use Rattle.duct_tasks.proofs.Keeping.{kept_all}
use Rattle.duct_tasks.proofs.keeper.keep.Goals as goal

pub returns-clause-kept : goal.returns-clause-kept
returns-clause-kept g c =
    let views = views_of g.S.System g.S.End.Numbered g.S.Child.Child g.S.Feed.Job g.S.Drain.Job in
    let services = c.args.services.now in
    kept_all views g.H.Hook.allows g.H.Hook.refuses g.C.Clock.may_show services _
    (c.args.sys.now, c.args.pool.now) (c.work.new.sys, c.work.new.pool) c.in_ok-kept.kept.items
    c.work.new.kept.items c.kept_of.result.items c.in_ok-kept.ensures.count
    c.in_ok-kept.ensures.fresh c.work.ensures.goes c.kept_of.ensures

use Rattle.duct_tasks.proofs.Common.{views_of}
use Rattle.duct_tasks.proofs.Staying.{alike}
use Rattle.duct_tasks.proofs.grace.Asked.wait.Goals as goal

pub returns-clause-alike : goal.returns-clause-alike
returns-clause-alike g c = alike (views_of g.S.System g.S.End.Numbered g.S.Child.Child g.S.Feed.Job
    g.S.Drain.Job) _ _ c.watch-ended.ensures.stays

pub returns-clause-lapsed : goal.returns-clause-lapsed
returns-clause-lapsed g c =
    let polled = c.watch-ended.ensures.polls in
    λ tries are. (polled.0, polled.2 tries are, polled.3, c.watch-ended.ensures.stores)

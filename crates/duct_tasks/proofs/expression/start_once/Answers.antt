use Rattle.duct_tasks.proofs.Common.{views_of, IsStart, draining}
use Rattle.duct_tasks.proofs.EachAttempt.{by_result}
use Rattle.duct_tasks.proofs.expression.start_once.Goals as goal

pub returns : goal.returns
returns g c =
    by_result (λ r. IsStart (views_of g.S.System g.S.End.Numbered g.S.Child.Child g.S.Feed.Job
    g.S.Drain.Job) g.H.Hook.allows g.H.Hook.refuses
    c.args.expression.now draining (c.args.system.now, c.args.pool.now) r
    (c.start.new.sys, c.start.new.pool))
    c.start.result c.start.ensures.launched c.start.ensures.refused

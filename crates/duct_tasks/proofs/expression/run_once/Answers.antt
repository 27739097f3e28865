use Rattle.duct_tasks.proofs.Common.{views_of, IsRun}
use Rattle.duct_tasks.proofs.EachAttempt.{by_result}
use Rattle.duct_tasks.proofs.expression.run_once.Goals as goal

pub returns : goal.returns
returns g c =
    by_result (λ r. IsRun (views_of g.S.System g.S.End.Numbered g.S.Child.Child g.S.Feed.Job
    g.S.Drain.Job) g.H.Hook.allows g.H.Hook.refuses
    c.args.expression.now (c.args.system.now, c.args.pool.now) r (c.run.new.sys, c.run.new.pool))
    c.run.result c.run.ensures.output c.run.ensures.failed

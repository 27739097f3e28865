use Rattle.std.proofs.Common.{inl}
use Rattle.duct_tasks.proofs.Common.{Running, views_of}
use Rattle.duct_tasks.proofs.Jobs.{same_on}
use Rattle.duct_tasks.proofs.job.Job+Running+S+S+Reader.ask_if_late.Goals as goal

pub returns-then-are_late-clause-goes : goal.returns-then-are_late-clause-goes
returns-then-are_late-clause-goes g c =
    λ stopped due. c.ask.ensures.goes stopped
    (inl (c.are_late.ensures c.if-are_late.true c.requires.ready.began))

pub returns-else-are_late-clause-goes : goal.returns-else-are_late-clause-goes
returns-else-are_late-clause-goes g c =
    let views = views_of g.S.System g.S.End.Numbered g.S.Child.Child g.S.Feed.Job g.S.Drain.Job in
    λ stopped due. same_on views g.S.System.may_read g.S.Reader.Read.remaining g.H.Hook.allows
    g.H.Hook.refuses g.C.Clock.may_show c.args.tasks.now stopped
    (Running c.args.self.now) c.args.sys.now c.args.pool.now.given due

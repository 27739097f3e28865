use Rattle.duct_tasks.proofs.Common.{Running, views_of}
use Rattle.duct_tasks.proofs.Jobs.{same_on}
use Rattle.duct_tasks.proofs.job.Job+Running+S+S+Reader.go_on.Goals as goal

pub returns-then-go_on-clause-goes : goal.returns-then-go_on-clause-goes
returns-then-go_on-clause-goes g c =
    let views = views_of g.S.System g.S.End.Numbered g.S.Child.Child g.S.Feed.Job g.S.Drain.Job in
    λ stopped due. same_on views g.S.System.may_read g.S.Reader.Read.remaining g.H.Hook.allows
    g.H.Hook.refuses g.C.Clock.may_show c.args.tasks.now stopped
    (Running c.args.self.now) c.args.sys.now c.args.pool.now.given due

pub returns-else-go_on-clause-goes : goal.returns-else-go_on-clause-goes
returns-else-go_on-clause-goes g c =
    let views = views_of g.S.System g.S.End.Numbered g.S.Child.Child g.S.Feed.Job g.S.Drain.Job in
    λ stopped due. same_on views g.S.System.may_read g.S.Reader.Read.remaining g.H.Hook.allows
    g.H.Hook.refuses g.C.Clock.may_show c.args.tasks.now stopped
    (Running c.args.self.now) c.args.sys.now c.args.pool.now.given due

pub returns-in-Over-clause-goes : goal.returns-in-Over-clause-goes
returns-in-Over-clause-goes g c =
    let views = views_of g.S.System g.S.End.Numbered g.S.Child.Child g.S.Feed.Job g.S.Drain.Job in
    λ stopped due. same_on views g.S.System.may_read g.S.Reader.Read.remaining g.H.Hook.allows
    g.H.Hook.refuses g.C.Clock.may_show c.args.tasks.now stopped
    (Running c.args.self.now) c.args.sys.now c.args.pool.now.given due

use Rattle.std.proofs.Common.{subst}
use Rattle.duct_tasks.proofs.Common.{Task, views_of}
use Rattle.duct_tasks.proofs.Jobs.{due_of, same_on}
use Rattle.duct_tasks.specs.Tasks.{IsReadyTask}
use Rattle.duct_tasks.proofs.task.ask.Goals as goal

pub ask-requires-clause-ready : goal.ask-requires-clause-ready
ask-requires-clause-ready g c =
    let views = views_of g.S.System g.S.End.Numbered g.S.Child.Child g.S.Feed.Job g.S.Drain.Job in
    λ lifetimes fit. subst (λ (t : Task _ _). IsReadyTask views g.S.Reader.Read.remaining
    (g.C.Clock.may_show c.args.tasks.now.clock.now) t) c.in-Running.is c.requires.ready

pub returns-in_default-clause-goes : goal.returns-in_default-clause-goes
returns-in_default-clause-goes g c =
    let views = views_of g.S.System g.S.End.Numbered g.S.Child.Child g.S.Feed.Job g.S.Drain.Job in
    λ stopped due. same_on views g.S.System.may_read g.S.Reader.Read.remaining g.H.Hook.allows
    g.H.Hook.refuses g.C.Clock.may_show c.args.tasks.now stopped c.args.task.now
    c.args.sys.now c.args.pool.now.given (due_of views g.S.System.may_read g.S.Reader.Read.remaining g.H.Hook.allows
    g.H.Hook.refuses g.C.Clock.may_show c.args.tasks.now stopped
    c.args.task.now due)

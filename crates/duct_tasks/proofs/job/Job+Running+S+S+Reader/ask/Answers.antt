use Rattle.std.proofs.Common.{arith, pos}
use Rattle.duct_tasks.proofs.Common.{Running, shape_view, views_of}
use Rattle.duct_tasks.proofs.Jobs.{asked_on, due_at, first_on, noted_in_place, polled_on, same_on, signals_on, were_signalled}
use Rattle.duct_tasks.specs.Groups.{processes_of}
use Rattle.duct_tasks.proofs.job.Job+Running+S+S+Reader.ask.Goals as goal

pub returns-in-Runs-clause-goes : goal.returns-in-Runs-clause-goes
returns-in-Runs-clause-goes g c =
    let views = views_of g.S.System g.S.End.Numbered g.S.Child.Child g.S.Feed.Job g.S.Drain.Job in
    let job = c.args.self.now in
    let running = c.ended-ended.new.running in
    let polled = record job { running = running } in
    let ordered = c.order_all.new.running in
    let given = c.order_all.ensures.ordered in
    λ stopped due.
    let still = due_at views g.S.System.may_read g.S.Reader.Read.remaining g.H.Hook.allows
    g.H.Hook.refuses g.C.Clock.may_show c.args.tasks.now stopped job.step due in
    first_on views g.S.System.may_read g.S.Reader.Read.remaining g.H.Hook.allows
    g.H.Hook.refuses g.C.Clock.may_show c.args.tasks.now stopped job
    polled _ c.args.sys.now _ c.args.pool.now.given _ still
    (polled_on views g.S.System.may_read g.S.Reader.Read.remaining g.H.Hook.allows
    g.H.Hook.refuses g.C.Clock.may_show c.args.tasks.now stopped job
    running c.in-Runs.is c.ended-ended.ensures.polls c.ended-ended.ensures.stays)
    (signals_on views g.S.System.may_read g.S.Reader.Read.remaining g.H.Hook.allows
    g.H.Hook.refuses g.C.Clock.may_show c.args.tasks.now stopped polled _ (pos 15)
    (shape_view running.shape) (processes_of views running) given.0 c.args.sys.now
    c.order_all.new.sys c.args.pool.now c.order_all.new.pool due due given.1.signals
    (asked_on views g.S.System.may_read g.S.Reader.Read.remaining g.H.Hook.allows
    g.H.Hook.refuses g.C.Clock.may_show c.args.tasks.now stopped polled
    ordered _ c.saturating_add.result c.now.result c.in-Runs.is c.order_all.ensures.alike
    (were_signalled views g.H.Hook.allows g.H.Hook.refuses given.0
    (c.args.sys.now, c.args.pool.now) (c.order_all.new.sys, c.order_all.new.pool) running
    ordered _ given.1 c.order_all.ensures.alike)
    (noted_in_place c.args.self.now.commands.len c.args.self.now.commands.items
    c.deref_mut.result.now c.note.new.commands c.reports.result.now _
    (omega (arith, c.args.self.now.commands.ok.0)) c.deref_mut.ensures.value c.reports.ensures
    c.note.ensures) due c.now.ensures c.saturating_add.ensures))

pub returns-in_default-clause-goes : goal.returns-in_default-clause-goes
returns-in_default-clause-goes g c =
    let views = views_of g.S.System g.S.End.Numbered g.S.Child.Child g.S.Feed.Job g.S.Drain.Job in
    λ stopped due. same_on views g.S.System.may_read g.S.Reader.Read.remaining g.H.Hook.allows
    g.H.Hook.refuses g.C.Clock.may_show c.args.tasks.now stopped
    (Running c.args.self.now) c.args.sys.now c.args.pool.now.given
    (due_at views g.S.System.may_read g.S.Reader.Read.remaining g.H.Hook.allows
    g.H.Hook.refuses g.C.Clock.may_show c.args.tasks.now stopped c.args.self.now.step due)

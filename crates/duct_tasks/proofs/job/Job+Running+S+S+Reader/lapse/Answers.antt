use Rattle.std.proofs.Common.{pos, subst}
use Rattle.duct_tasks.proofs.Common.{shape_view, views_of}
use Rattle.duct_tasks.proofs.Jobs.{killed_on, lapsed_on, signals_on, stays_on}
use Rattle.duct_tasks.specs.Groups.{processes_of}
use Rattle.duct_tasks.specs.Tasks.{IsDue, IsDueAt}
use Rattle.duct_tasks.specs.declared.job.Step.{Step}
use Rattle.duct_tasks.proofs.job.Job+Running+S+S+Reader.lapse.Goals as goal

pub returns-then-has_lapsed-clause-goes : goal.returns-then-has_lapsed-clause-goes
returns-then-has_lapsed-clause-goes g c =
    let views = views_of g.S.System g.S.End.Numbered g.S.Child.Child g.S.Feed.Job g.S.Drain.Job in
    let job = c.args.self.now in
    let polled = c.ended-ended.new.running in
    let killed = c.order_all-killed.new.running in
    let given = c.order_all-killed.ensures.ordered in
    λ stopped due.
    let is_due = subst (λ (s : Step). IsDueAt (IsDue (g.C.Clock.may_show c.args.tasks.now.clock.now)
    c.args.tasks.now.limit stopped) s) c.requires.asked due in
    signals_on views g.S.System.may_read g.S.Reader.Read.remaining g.H.Hook.allows
    g.H.Hook.refuses g.C.Clock.may_show c.args.tasks.now stopped job _ (pos 9)
    (shape_view polled.shape) (processes_of views polled) given.0 c.args.sys.now
    c.order_all-killed.new.sys c.args.pool.now c.order_all-killed.new.pool is_due is_due
    given.1.signals
    (killed_on views g.S.System.may_read g.S.Reader.Read.remaining g.H.Hook.allows
    g.H.Hook.refuses g.C.Clock.may_show c.args.tasks.now stopped job polled killed
    (record { ended = c.ended-ended.result; killed = c.order_all-killed.result }) c.args.last
    c.last_read.result given.0 (c.args.sys.now, c.args.pool.now)
    (c.order_all-killed.new.sys, c.order_all-killed.new.pool) c.requires.asked
    c.ended-ended.ensures.polls c.ended-ended.ensures.stays c.ended-ended.ensures.stores
    (c.has_lapsed.ensures c.if-has_lapsed.true) given.1 c.order_all-killed.ensures.alike)

pub returns-else-has_lapsed-clause-goes : goal.returns-else-has_lapsed-clause-goes
returns-else-has_lapsed-clause-goes g c =
    let views = views_of g.S.System g.S.End.Numbered g.S.Child.Child g.S.Feed.Job g.S.Drain.Job in
    λ stopped due. stays_on views g.S.System.may_read g.S.Reader.Read.remaining g.H.Hook.allows
    g.H.Hook.refuses g.C.Clock.may_show c.args.tasks.now stopped c.args.self.now _
    c.args.sys.now c.args.pool.now.given due (lapsed_on views g.S.System.may_read g.S.Reader.Read.remaining g.H.Hook.allows
    g.H.Hook.refuses g.C.Clock.may_show c.args.tasks.now stopped
    c.args.self.now c.ended-ended.new.running c.args.last c.requires.asked
    c.ended-ended.ensures.polls c.ended-ended.ensures.stays)

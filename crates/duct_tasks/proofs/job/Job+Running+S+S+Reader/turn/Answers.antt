use Rattle.duct_tasks.proofs.Common.{views_of}
use Rattle.duct_tasks.proofs.Jobs.{first_on, read_on}
use Rattle.duct_tasks.proofs.job.Job+Running+S+S+Reader.turn.Goals as goal

pub returns-then-not-go_on-clause-goes : goal.returns-then-not-go_on-clause-goes
returns-then-not-go_on-clause-goes g c =
    let views = views_of g.S.System g.S.End.Numbered g.S.Child.Child g.S.Feed.Job g.S.Drain.Job in
    let job = c.args.self.now in
    λ stopped due. first_on views g.S.System.may_read g.S.Reader.Read.remaining g.H.Hook.allows
    g.H.Hook.refuses g.C.Clock.may_show c.args.tasks.now stopped job
    (record job { streams = c.turn.new.self }) _ c.args.sys.now _ c.args.pool.now.given _ due
    (read_on views g.S.System.may_read g.S.Reader.Read.remaining g.H.Hook.allows
    g.H.Hook.refuses g.C.Clock.may_show c.args.tasks.now stopped job
    c.turn.new.self c.turn.ensures.out c.turn.ensures.err) (c.go_on.ensures.goes stopped due)

pub returns-then-before-count-clause-goes : goal.returns-then-before-count-clause-goes
returns-then-before-count-clause-goes g c =
    let views = views_of g.S.System g.S.End.Numbered g.S.Child.Child g.S.Feed.Job g.S.Drain.Job in
    let job = c.args.self.now in
    λ stopped due. first_on views g.S.System.may_read g.S.Reader.Read.remaining g.H.Hook.allows
    g.H.Hook.refuses g.C.Clock.may_show c.args.tasks.now stopped job
    (record job { streams = c.turn.new.self }) _ c.args.sys.now _ c.args.pool.now.given _ due
    (read_on views g.S.System.may_read g.S.Reader.Read.remaining g.H.Hook.allows
    g.H.Hook.refuses g.C.Clock.may_show c.args.tasks.now stopped job
    c.turn.new.self c.turn.ensures.out c.turn.ensures.err) (c.go_on.ensures.goes stopped due)

pub returns-else-before-count-clause-goes : goal.returns-else-before-count-clause-goes
returns-else-before-count-clause-goes g c =
    let views = views_of g.S.System g.S.End.Numbered g.S.Child.Child g.S.Feed.Job g.S.Drain.Job in
    let job = c.args.self.now in
    λ stopped due. first_on views g.S.System.may_read g.S.Reader.Read.remaining g.H.Hook.allows
    g.H.Hook.refuses g.C.Clock.may_show c.args.tasks.now stopped job
    (record job { streams = c.turn.new.self }) _ c.args.sys.now _ c.args.pool.now.given _ due
    (read_on views g.S.System.may_read g.S.Reader.Read.remaining g.H.Hook.allows
    g.H.Hook.refuses g.C.Clock.may_show c.args.tasks.now stopped job
    c.turn.new.self c.turn.ensures.out c.turn.ensures.err) (c.go_on.ensures.goes stopped due)

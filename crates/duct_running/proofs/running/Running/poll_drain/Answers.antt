use Rattle.std.proofs.Common.{ap, sym, ◌∙◌}
use Rattle.duct_running.proofs.Common.{RunningView, views_of}
use Rattle.duct_running.proofs.Jobs.{left, polled, test_is}
use Rattle.duct_running.proofs.Told.{drain_holds}
use Rattle.duct_running.proofs.running.Running.poll_drain.Goals as goal

pub invariant_of-self-2 : goal.invariant_of-self-2
invariant_of-self-2 g c =
    drain_holds g.S.Child.Child.child_view g.S.Feed.Job.job_view g.S.Drain.Job.job_view g.S.Child.Child.may_answer g.S.Feed.Job.may_say g.S.Drain.Job.may_say
    _ _ _ _ _ _ _ c.poll-heard.new.self c.poll-heard.result c.poll-heard.ensures _ _ _ _ c.args.side c.self.inside.drains c.self.invariant (sym c.of_mut.ensures.value ∙ c.in-Some.is) c.step.ensures.shape c.step.ensures.words

pub returns-clause-asked : goal.returns-clause-asked
returns-clause-asked g c =
    let views = views_of g.S.System g.S.End.Numbered g.S.Child.Child g.S.Feed.Job g.S.Drain.Job in
    polled views c.args.self.now c.self.inside.drains (ap (λ (r : RunningView _ _ _). record { out = r.output; err = r.error }) c.self.view_is) _ _ _ c.args.side _ c.poll-heard.new.self
    (test_is views c.args.self.now c.args.side c.self.view_is c.self.invariant.heard c.awaited.ensures c.if-not-is_awaited.ensures) (sym c.of_mut.ensures.value ∙ c.in-Some.is) (c.poll-heard.result, c.poll-heard.ensures)

pub returns-then-not-is_awaited-clause-asked : goal.returns-then-not-is_awaited-clause-asked
returns-then-not-is_awaited-clause-asked g c =
    let views = views_of g.S.System g.S.End.Numbered g.S.Child.Child g.S.Feed.Job g.S.Drain.Job in
    left views c.args.self.now c.args.side (test_is views c.args.self.now c.args.side c.self.view_is c.self.invariant.heard c.awaited.ensures c.if-not-is_awaited.ensures)

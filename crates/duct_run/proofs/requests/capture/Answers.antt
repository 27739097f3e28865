use Rattle.duct_run.proofs.Common.{err_from_is_err_and, pipe_view, resources_view}
use Rattle.std.proofs.Common.{ap, refl, sym, ◌∙◌, Some}
use Rattle.duct_run.proofs.Captured.{capture_succeeds, capture_fails}
use Rattle.duct_run.proofs.PerSide.{pipe_at, pipes_with}
use Rattle.duct_run.proofs.Requesting.{goes_on, stops}
use Rattle.duct_run.proofs.requests.capture.Goals as goal

pub returns-in_err-reader-in-None : goal.returns-in_err-reader-in-None
returns-in_err-reader-in-None g c =
    let p = err_from_is_err_and c.from_residual.result c.from_residual.ensures.1 in
    let num = g.S.End.Numbered.number_of in
    let h = resources_view num g.S.Child.Child.child_view g.S.Feed.Job.job_view g.S.Drain.Job.job_view c.args.held.now in
    let is = pipe_at num c.args.held.now.pipes c.args.side ∙ ap (λ o. pipe_view num o) (sym c.of.ensures ∙ c.in-None.is) in
    rw (p.1, p.2) (stops ((λ no. no), capture_fails g.H.Hook.allows num c.args.side _ _ _ h is c.in_err-reader-in-None.ensures.err) (λ new. new) refl)

pub returns-in_ok-reader-in-None : goal.returns-in_ok-reader-in-None
returns-in_ok-reader-in-None g c =
    let num = g.S.End.Numbered.number_of in
    let pipes = c.args.held.now.pipes in
    let h = resources_view num g.S.Child.Child.child_view g.S.Feed.Job.job_view g.S.Drain.Job.job_view c.args.held.now in
    let ok = c.in_ok-reader-in-None in
    let is = pipe_at num pipes c.args.side ∙ ap (λ o. pipe_view num o) (sym c.of.ensures ∙ c.in-None.is) in
    goes_on (rw (pipes_with num pipes c.args.side (Some (ok.reader, ok.writer))) (capture_succeeds g.H.Hook.allows num c.args.side (num ok.reader) (num ok.writer) _ _ h is ok.ensures.ok))
    (λ new. record { children = new.children; feeds = new.feeds; drains = new.drains }) refl

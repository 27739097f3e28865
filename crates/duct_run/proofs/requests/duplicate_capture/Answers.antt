use Rattle.duct_run.proofs.Common.{err_from_is_err_and, pipe_view, resources_view}
use Rattle.duct_run.specs.Actions as action
use Rattle.std.proofs.Common.{ap, refl, rules, sym, ◌∙◌}
use Rattle.duct_run.proofs.Going.{duplicate_fails, tap_succeeds}
use Rattle.duct_run.proofs.PerSide.{pipe_at}
use Rattle.duct_run.proofs.Pushed.{pushed, goes_over}
use Rattle.duct_run.proofs.Requesting.{goes_on, stops}
use Rattle.duct_run.proofs.requests.duplicate_capture.Goals as goal

pub returns-in_err-end-in-Some : goal.returns-in_err-end-in-Some
returns-in_err-end-in-Some g c =
    let p = err_from_is_err_and c.from_residual.result c.from_residual.ensures.1 in
    rw (p.1, p.2) (stops ((λ no. no), duplicate_fails g.H.Hook.allows g.S.End.Numbered.number_of _ _ _ _ (action.duplicate_capture c.args.side) _ (λ st. refl) c.in_err-end-in-Some.ensures.err) (λ new. new) refl)

pub returns : goal.returns
returns g c =
    let num = g.S.End.Numbered.number_of in
    let allows = g.H.Hook.allows in
    let h = resources_view num g.S.Child.Child.child_view g.S.Feed.Job.job_view g.S.Drain.Job.job_view c.args.held.now in
    let is = pipe_at num c.args.held.now.pipes c.args.side ∙ ap (λ o. pipe_view num o) (sym c.of.ensures ∙ c.in-Some.is) in
    goes_on (goes_over allows num (action.duplicate_capture c.args.side) _ _ h _ _ (pushed num c.args.held.now.stack.items c.push_reserved.new.self.items c.in_ok-end-in-Some.end c.push_reserved.ensures.items)
    (tap_succeeds allows num c.args.side _ _ (num c.in_ok-end-in-Some.end) _ _ h is c.in_ok-end-in-Some.ensures.ok)) (search rules) (search rules)

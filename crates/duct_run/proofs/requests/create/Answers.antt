use Rattle.std.proofs.Common.{rules}
use Rattle.duct_run.proofs.Common.{err_from_is_err_and, resources_view}
use Rattle.duct_run.specs.Actions as action
use Rattle.duct_run.proofs.Going.{create_succeeds, create_fails}
use Rattle.duct_run.proofs.Pushed.{pushed, goes_over}
use Rattle.duct_run.proofs.Requesting.{goes_on, stops}
use Rattle.duct_run.proofs.requests.create.Goals as goal

pub returns-in_err-end : goal.returns-in_err-end
returns-in_err-end g c =
    let p = err_from_is_err_and c.from_residual.result c.from_residual.ensures.1 in
    rw (p.1, p.2) (stops ((λ no. no), create_fails g.H.Hook.allows g.S.End.Numbered.number_of _ _ _ _ c.args.path.now c.in_err-end.ensures.err) (search rules) (search rules))

pub returns : goal.returns
returns g c =
    let num = g.S.End.Numbered.number_of in
    let allows = g.H.Hook.allows in
    let h = resources_view num g.S.Child.Child.child_view g.S.Feed.Job.job_view g.S.Drain.Job.job_view c.args.held.now in
    goes_on (goes_over allows num (action.create c.args.path.now) _ _ h _ _ (pushed num c.args.held.now.stack.items c.push_reserved.new.self.items c.in_ok-end.end c.push_reserved.ensures.items)
    (create_succeeds allows num c.args.path.now (num c.in_ok-end.end) _ _ h c.in_ok-end.ensures.ok)) (search rules) (search rules)

use Rattle.duct_run.proofs.Common.{err_from_is_err_and, resources_view}
use Rattle.duct_run.specs.Actions as action
use Rattle.std.proofs.Common.{rules, refl}
use Rattle.duct_run.proofs.Going.{duplicate_fails, lend_succeeds}
use Rattle.duct_run.proofs.Pushed.{pushed, goes_over}
use Rattle.duct_run.proofs.Requesting.{goes_on, stops}
use Rattle.duct_run.proofs.requests.duplicate_caller_end.Goals as goal

pub returns-in_err-made : goal.returns-in_err-made
returns-in_err-made g c =
    let p = err_from_is_err_and c.from_residual.result c.from_residual.ensures.1 in
    rw (p.1, p.2) (stops ((λ no. no), duplicate_fails g.H.Hook.allows g.S.End.Numbered.number_of _ _ _ _ (action.duplicate_caller_end c.args.end.now) _ (λ st. refl) c.in_err-made.ensures.err) (search rules) (search rules))

pub returns : goal.returns
returns g c =
    let num = g.S.End.Numbered.number_of in
    let allows = g.H.Hook.allows in
    let h = resources_view num g.S.Child.Child.child_view g.S.Feed.Job.job_view g.S.Drain.Job.job_view c.args.held.now in
    goes_on (goes_over allows num (action.duplicate_caller_end c.args.end.now) _ _ h _ _ (pushed num c.args.held.now.stack.items c.push_reserved.new.self.items c.in_ok-made.made c.push_reserved.ensures.items)
    (lend_succeeds allows num c.args.end.now (num c.in_ok-made.made) _ _ h c.in_ok-made.ensures.ok)) (search rules) (search rules)

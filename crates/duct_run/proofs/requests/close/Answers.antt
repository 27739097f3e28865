use Rattle.std.proofs.Common.{rules}
use Rattle.duct_run.proofs.Common.{resources_view, stack_view}
use Rattle.duct_run.proofs.Going.{close_succeeds}
use Rattle.duct_run.proofs.Pushed.{pushed}
use Rattle.duct_run.proofs.Requesting.{goes_on}
use Rattle.duct_run.proofs.requests.close.Goals as goal

pub returns : goal.returns
returns g c =
    let num = g.S.End.Numbered.number_of in
    let allows = g.H.Hook.allows in
    let h = resources_view num g.S.Child.Child.child_view g.S.Feed.Job.job_view g.S.Drain.Job.job_view c.args.held.now in
    goes_on (close_succeeds allows num (num c.top-end.result) (stack_view num c.top-end.new.stack.items) _ _ h
    (pushed num c.top-end.new.stack.items c.args.held.now.stack.items c.top-end.result c.top-end.ensures.items) c.close.ensures) (search rules) (search rules)

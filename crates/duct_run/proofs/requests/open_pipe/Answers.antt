use Rattle.std.proofs.Common.{rules}
use Rattle.duct_run.proofs.Common.{err_from_is_err_and, resources_view}
use Rattle.duct_run.specs.Actions as action
use Rattle.duct_run.proofs.Going.{pipe_succeeds, pipe_fails}
use Rattle.duct_run.proofs.Pushed.{pushed_two, goes_over}
use Rattle.duct_run.proofs.Requesting.{goes_on, stops}
use Rattle.duct_run.proofs.requests.open_pipe.Goals as goal

pub returns-in_err-reader : goal.returns-in_err-reader
returns-in_err-reader g c =
    let p = err_from_is_err_and c.from_residual.result c.from_residual.ensures.1 in
    rw (p.1, p.2) (stops ((λ no. no), pipe_fails g.H.Hook.allows g.S.End.Numbered.number_of _ _ _ _ c.in_err-reader.ensures.err) (search rules) (search rules))

pub returns : goal.returns
returns g c =
    let num = g.S.End.Numbered.number_of in
    let allows = g.H.Hook.allows in
    let h = resources_view num g.S.Child.Child.child_view g.S.Feed.Job.job_view g.S.Drain.Job.job_view c.args.held.now in
    let ok = c.in_ok-reader in
    goes_on (goes_over allows num action.pipe _ _ h _ _ (pushed_two num c.args.held.now.stack.items c.push_reserved.new.self.items c.push_reserved-2.new.self.items ok.reader ok.writer c.push_reserved.ensures.items c.push_reserved-2.ensures.items)
    (pipe_succeeds allows num (num ok.reader) (num ok.writer) _ _ h ok.ensures.ok)) (search rules) (search rules)

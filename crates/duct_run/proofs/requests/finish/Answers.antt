use Rattle.duct_run.proofs.Common.{err_from_is_err_and, All-cons, All-nil, unpolled_job, pipe_view, both, resources_view, with_side}
use Rattle.std.proofs.Common.{All, ap, sym, ◌∙◌, ◌≡◌, ◌++◌, ◌∷◌, [], Some, None, map, option_to_list}
use Rattle.duct_run.proofs.Captured.{finish_succeeds, finish_fails}
use Rattle.duct_run.proofs.CapturePipes.{each_with}
use Rattle.duct_run.proofs.PerSide.{last_worker, pipe_at, pipes_with}
use Rattle.duct_run.proofs.Pushed.{unpolled_same}
use Rattle.duct_run.proofs.requests.finish.Goals as goal

pub returns-in_err-job-clause-err : goal.returns-in_err-job-clause-err
returns-in_err-job-clause-err g c =
    let p = err_from_is_err_and c.from_residual.result c.from_residual.ensures.1 in
    let num = g.S.End.Numbered.number_of in
    let allows = g.H.Hook.allows in
    let pipes = c.args.held.now.pipes in
    let h = resources_view num g.S.Child.Child.child_view g.S.Feed.Job.job_view g.S.Drain.Job.job_view c.args.held.now in
    let was = pipe_at num pipes c.args.side ∙ ap (λ o. pipe_view num o) (sym c.of_mut.ensures.value ∙ sym c.take.ensures.value ∙ c.in-Some.is) in
    rw (p.1, p.2, c.take.ensures.after, pipes_with num pipes c.args.side None) ((λ no. no), finish_fails allows num c.args.side _ _ _ _ _ h was c.close.ensures _ c.in_err-job.ensures.err)

pub returns-clause-ok : goal.returns-clause-ok
returns-clause-ok g c =
    let num = g.S.End.Numbered.number_of in
    let allows = g.H.Hook.allows in
    let pipes = c.args.held.now.pipes in
    let h = resources_view num g.S.Child.Child.child_view g.S.Feed.Job.job_view g.S.Drain.Job.job_view c.args.held.now in
    let view = g.S.Drain.Job.job_view in
    let job = c.in_ok-job.job in
    let was = pipe_at num pipes c.args.side ∙ ap (λ o. pipe_view num o) (sym c.of_mut.ensures.value ∙ sym c.take.ensures.value ∙ c.in-Some.is) in
    let same = ap (λ v. v.number) c.in_ok-job.ensures.unasked in
    let drained : map (λ d. (view d).number) (both (with_side c.args.held.now.drains c.args.side (Some job))) ≡ h.drains ++ num c.in-Some.reader ∷ [] =
    last_worker (λ d. (view d).number) c.args.held.now.drains c.args.side job c.requires.none c.requires.last ∙ ap (λ n. h.drains ++ n ∷ []) same in
    rw (c.take.ensures.after, pipes_with num pipes c.args.side None, drained) (finish_succeeds allows num c.args.side _ _ _ _ _ h was c.close.ensures c.in_ok-job.ensures.ok)

pub returns-clause-new : goal.returns-clause-new
returns-clause-new g c = λ new.
    let view = g.S.Drain.Job.job_view in
    let own = c.args.held.now.drains in
    let job = c.in_ok-job.job in
    let one = All-cons (λ d. view d ≡ unpolled_job (view d).number) job [] (unpolled_same _ _ c.in_ok-job.ensures.unasked) (All-nil _) in
    record {
      children = new.children;
      feeds = new.feeds;
      drains = each_with (λ drain other. All (λ d. view d ≡ unpolled_job (view d).number) (option_to_list drain)) own own c.args.side (Some job) (Some job) one new.drains;
    }

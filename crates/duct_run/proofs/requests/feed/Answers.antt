use Rattle.duct_run.proofs.Common.{err_from_is_err_and, arc_value, unpolled_job, AskFeed, resources_view, stack_view}
use Rattle.std.proofs.Common.{rules, refl, ap, ◌∙◌, ◌≡◌, List, ℕ, ◌++◌, ◌∷◌, []}
use Rattle.duct_run.specs.Actions as action
use Rattle.duct_run.proofs.Going.{feed_succeeds, feed_fails, memory_fails}
use Rattle.duct_run.proofs.Pushed.{pushed, pushed_number, goes_as, all_pushed, as_bytes, still, unpolled_same}
use Rattle.duct_run.proofs.Requesting.{goes_on, stops}
use Rattle.duct_run.proofs.requests.feed.Goals as goal

pub returns-in_err-bytes : goal.returns-in_err-bytes
returns-in_err-bytes g c =
    let p = err_from_is_err_and c.from_residual.result c.from_residual.ensures.1 in
    rw (p.1, p.2) (stops ((λ no. no), memory_fails g.H.Hook.allows g.S.End.Numbered.number_of (action.feed (arc_value c.args.bytes.now).items) (λ st. AskFeed (action.pipe_place st.stack) (arc_value c.args.bytes.now).items ∷ []) _ _ _ _ (λ st. refl) (still (g.S.System.journal_view c.args.sys.now)) tt) (search rules) (search rules))

pub returns-in_err-job : goal.returns-in_err-job
returns-in_err-job g c =
    let p = err_from_is_err_and c.from_residual-in_err-job.result c.from_residual-in_err-job.ensures.1 in
    let num = g.S.End.Numbered.number_of in
    let allows = g.H.Hook.allows in
    let h = resources_view num g.S.Child.Child.child_view g.S.Feed.Job.job_view g.S.Drain.Job.job_view c.args.held.now in
    rw (p.1, p.2) (stops (
      (λ no. no),
      feed_fails allows num (num c.top-end.result) (stack_view num c.top-end.new.stack.items) (arc_value c.args.bytes.now).items _ _ h (pushed num c.top-end.new.stack.items c.args.held.now.stack.items c.top-end.result c.top-end.ensures.items)
          _ (as_bytes _ _ _ _ _ _ (ap (λ v. v.items) c.in_ok-bytes.ensures) c.in_err-job.ensures.err),
    ) (search rules) (search rules))

pub returns : goal.returns
returns g c =
    let num = g.S.End.Numbered.number_of in
    let allows = g.H.Hook.allows in
    let h = resources_view num g.S.Child.Child.child_view g.S.Feed.Job.job_view g.S.Drain.Job.job_view c.args.held.now in
    let view = g.S.Feed.Job.job_view in
    let same : (view c.in_ok-job.job).number ≡ num c.top-end.result = ap (λ v. v.number) c.in_ok-job.ensures.unasked in
    let fed = pushed_number (λ f. (view f).number) c.args.held.now.feeds.items c.push_reserved.new.self.items c.in_ok-job.job c.push_reserved.ensures.items ∙ ap (λ (n : ℕ). h.feeds ++ n ∷ []) same in
    goes_on (goes_as allows num _ _ _ h _ _ (ap (λ (l : List ℕ). record { stack = stack_view num c.top-end.new.stack.items; pipes = h.pipes; children = h.children; feeds = l; drains = h.drains }) fed)
    (feed_succeeds allows num (num c.top-end.result) (stack_view num c.top-end.new.stack.items) (arc_value c.args.bytes.now).items _ _ h (pushed num c.top-end.new.stack.items c.args.held.now.stack.items c.top-end.result c.top-end.ensures.items)
    (as_bytes _ _ _ _ _ _ (ap (λ v. v.items) c.in_ok-bytes.ensures) c.in_ok-job.ensures.ok))) (λ new. record {
      children = new.children;
      feeds = all_pushed (λ f. g.S.Feed.Job.job_view f ≡ unpolled_job (g.S.Feed.Job.job_view f).number) c.args.held.now.feeds.items c.push_reserved.new.self.items c.in_ok-job.job c.push_reserved.ensures.items new.feeds (unpolled_same _ _ c.in_ok-job.ensures.unasked);
      drains = new.drains;
    }) (search rules)

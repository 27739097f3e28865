-- The core's words are those that the children store.
use Rattle.std.proofs.Common.{ap, ◌∙◌}
use Rattle.duct_running.proofs.Common.{RunningView, Latest, stored_in}
use Rattle.duct_running.proofs.running.Running.reports.Goals as goal

pub returns : goal.returns
returns g c =
    c.reports.ensures
    ∙ ap (λ (l : Latest). l.commands) c.self.invariant.heard
    ∙ ap (λ (r : RunningView _ _ _). (stored_in g.S.Child.Child.child_view g.S.Feed.Job.job_view g.S.Drain.Job.job_view r).commands) c.self.view_is

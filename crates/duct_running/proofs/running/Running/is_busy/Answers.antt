-- The core's words are those that the children store.
use Rattle.std.proofs.Common.{ap, subst, ◌∙◌, ◌↔◌, Contains, IsTrue, List}
use Rattle.duct_running.proofs.Common.{RunningView, Latest, Word, stored_in}
use Rattle.duct_status.specs.declared.status.Word.TheVariants as word
use Rattle.duct_running.proofs.running.Running.is_busy.Goals as goal

pub returns : goal.returns
returns g c =
    subst (λ (words : List Word). IsTrue c.is_busy.result ↔ Contains words word.Running)
    (ap (λ (l : Latest). l.commands) c.self.invariant.heard
    ∙ ap (λ (r : RunningView _ _ _). (stored_in g.S.Child.Child.child_view g.S.Feed.Job.job_view g.S.Drain.Job.job_view r).commands) c.self.view_is)
    c.is_busy.ensures

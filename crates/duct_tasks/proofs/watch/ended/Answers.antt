use Rattle.std.specs.declared.sync.Arc.{Arc}
use Rattle.std.proofs.Common.{ap, inl, inr, subst, ◌∙◌, Ok, Err, Option, Global}
use Rattle.duct_tasks.proofs.Common.{Error, views_of, Polled}
use Rattle.duct_system.specs.declared.system.Output.{Output}
use Rattle.duct_running.specs.Answered.{ReturnsConclusion}
use Rattle.duct_tasks.proofs.watch.ended.Goals as goal

pub returns-in-Ok-None-clause-runs : goal.returns-in-Ok-None-clause-runs
returns-in-Ok-None-clause-runs g c =
    inl (c.polled.ensures.runs (c.in-Ok-None.is ∙ ap (λ (f : Option (Arc Output Global)). Ok f)
    c.in-Ok-None.field-0-is))

pub returns-in-Err-System-clause-runs : goal.returns-in-Err-System-clause-runs
returns-in-Err-System-clause-runs g c =
    let views = views_of g.S.System g.S.End.Numbered g.S.Child.Child g.S.Feed.Job g.S.Drain.Job in
    inr (
      c.in-Err-System.field-0-0,
      subst (λ (p : Polled). ReturnsConclusion views c.polled.new.running p)
          (c.in-Err-System.is ∙ ap (λ (e : Error). Err e) c.in-Err-System.field-0-is)
          c.polled.ensures.ending,
    )

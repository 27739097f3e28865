use Rattle.std.proofs.Common.{subst, sym}
use Rattle.duct_tasks.proofs.Common.{RunningView, views_of}
use Rattle.duct_tasks.proofs.Serving.{ended_at, passed_if}
use Rattle.duct_tasks.specs.Services.{IsAt, after_end}
use Rattle.duct_tasks.specs.declared.service.Service.{Service}
use Rattle.duct_tasks.proofs.service.Service+Running+S.end_by_itself.Goals as goal

pub returns-clause-stands : goal.returns-clause-stands
returns-clause-stands g c =
    let views = views_of g.S.System g.S.End.Numbered g.S.Child.Child g.S.Feed.Job g.S.Drain.Job in
    let restarts = c.args.services.now.restarts in
    let shows = g.C.Clock.may_show c.args.services.now.clock.now in
    let anew = c.count_anew.ensures in
    let next = c.after-next.ensures in
    let is_healthy = c.lasts.result in
    λ from shown is. (
      is_healthy,
      passed_if shows restarts.healthy c.args.began c.now-now.result is_healthy shown
          c.now-now.ensures c.lasts.ensures.yes c.lasts.ensures.no,
      subst (λ (s : Service (RunningView _ _ _)). IsAt views restarts shows s
          (after_end from c.args.end is_healthy)) (sym c.end.ensures.stands)
          (ended_at views restarts shows c.args.self.now c.count_anew.new.self from c.args.end
          is_healthy c.is_over.result c.after-next.result c.now-now.result is anew.stays anew.row
          anew.pause c.is_over.ensures c.now-now.ensures next.rests next.over),
    )

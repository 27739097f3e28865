use Rattle.std.proofs.Common.{◌∙◌, refl}
use Rattle.duct_tasks.proofs.Ending.{if_none_with, if_some_with}
use Rattle.duct_tasks.proofs.stop.stop.Goals as goal

pub returns-clause-grace : goal.returns-clause-grace
returns-clause-grace g c = (
  if_none_with c.wait-ended.result.0 c.wait-ended.ensures.late
      (λ late. rw (← c.saturating_add-last.ensures) late),
  if_some_with c.wait-ended.result.0 c.wait-ended.ensures.patient
      (λ end late memory. let says = late memory in
      rw (← c.saturating_add-last.ensures) says),
)

pub returns-clause-stopped : goal.returns-clause-stopped
returns-clause-stopped g c =
    let asked = c.new-asked.ensures.signalled in
    record {
      tries = asked.0;
      kills = c.kill-killed.ensures.ordered.0;
      between = (c.new-asked.new.sys, c.new-asked.new.pool);
      polled = c.wait-ended.result.1.running;
      signals = asked.1;
      alike = c.wait-ended.ensures.alike ∙ c.new-asked.ensures.alike;
      processes = c.wait-ended.ensures.processes ∙ c.new-asked.ensures.processes;
      lapsed = c.wait-ended.ensures.lapsed asked.0 asked.2;
      ordered = c.kill-killed.ensures.ordered.1;
      kept = c.kill-killed.ensures.alike;
    }

-- What is stopped while its streams are read on.
use Rattle.std.proofs.Common.{◌∙◌, refl}
use Rattle.duct_tasks.proofs.Common.{err_from_is_err_and}
use Rattle.duct_tasks.proofs.Ending.{if_none_with, if_some_with}
use Rattle.duct_tasks.proofs.Handing.{failed_by, gives_lines, ok_before}
use Rattle.duct_tasks.proofs.attended.Attended.stop.Goals as goal

pub returns-clause-ok : goal.returns-clause-ok
returns-clause-ok g c = ok_before c.args.self.streams.over c.read-2.new.self.over
    (λ e. c.read-2.ensures.failed (c.read.ensures.failed e)) c.in_ok-stdout.ensures.over.0
    c.in_ok-stdout.ensures.over.1

pub returns-clause-late : goal.returns-clause-late
returns-clause-late g c =
    let ok = ok_before c.args.self.streams.over c.read-2.new.self.over
    (λ e. c.read-2.ensures.failed (c.read.ensures.failed e)) c.in_ok-stdout.ensures.over.0
    c.in_ok-stdout.ensures.over.1 in
    record {
      late = c.requires.late ok;
      patient = (
        if_none_with c.wait-ended.result.0 c.wait-ended.ensures.late
            (λ late. rw (← c.end_of_grace-last.ensures ok) late),
        if_some_with c.wait-ended.result.0 c.wait-ended.ensures.patient
            (λ end late memory. let says = late memory in
            rw (← c.end_of_grace-last.ensures ok) says),
      );
    }

pub returns-clause-stopped : goal.returns-clause-stopped
returns-clause-stopped g c =
    let asked = c.new-asked.ensures.signalled in (
      record { ended = c.wait-ended.result.0; killed = c.kill-killed.result },
      refl,
      record {
        left = c.kill-killed.new.self.running;
        ended = c.kill-killed.new.pool;
        stopped = record {
          tries = asked.0;
          kills = c.kill-killed.ensures.ordered.0;
          between = (c.new-asked.new.sys, c.new-asked.new.pool);
          polled = c.wait-ended.result.1.running;
          signals = asked.1;
          alike = c.wait-ended.ensures.alike ∙ c.new-asked.ensures.alike;
          processes = c.wait-ended.ensures.processes ∙ c.new-asked.ensures.processes;
          lapsed = c.wait-ended.ensures.lapsed asked.0 asked.2;
          ordered = c.kill-killed.ensures.ordered.1;
          kept = c.kill-killed.ensures.alike;
        };
        gets = rw (← c.into_running.ensures) c.give_up.ensures;
      },
    )

pub returns-in_err-stdout-clause-stopped : goal.returns-in_err-stdout-clause-stopped
returns-in_err-stdout-clause-stopped g c =
    let asked = c.new-asked.ensures.signalled in
    let p = err_from_is_err_and c.from_residual.result c.from_residual.ensures.1 in
    rw p.1 (
      record { ended = c.wait-ended.result.0; killed = c.kill-killed.result },
      tt,
      record {
        left = c.kill-killed.new.self.running;
        ended = c.kill-killed.new.pool;
        stopped = record {
          tries = asked.0;
          kills = c.kill-killed.ensures.ordered.0;
          between = (c.new-asked.new.sys, c.new-asked.new.pool);
          polled = c.wait-ended.result.1.running;
          signals = asked.1;
          alike = c.wait-ended.ensures.alike ∙ c.new-asked.ensures.alike;
          processes = c.wait-ended.ensures.processes ∙ c.new-asked.ensures.processes;
          lapsed = c.wait-ended.ensures.lapsed asked.0 asked.2;
          ordered = c.kill-killed.ensures.ordered.1;
          kept = c.kill-killed.ensures.alike;
        };
        gets = rw (← c.into_running.ensures) c.give_up.ensures;
      },
    )

pub returns-in_err-stdout-clause-failed : goal.returns-in_err-stdout-clause-failed
returns-in_err-stdout-clause-failed g c =
    let p = err_from_is_err_and c.from_residual.result c.from_residual.ensures.1 in
    rw (p.1, p.2) (λ f was. failed_by g.S.Reader.Read.remaining g.F.FnMut c.read-2.new.self f
    c.read-2.new.each c.in_err-stdout.field-0.0
    (c.read-2.ensures.hands f (c.read.ensures.hands f was)) c.in_err-stdout.ensures.err)

pub returns-clause-gives : goal.returns-clause-gives
returns-clause-gives g c =
    let out = c.in_ok-stdout.ensures.ok in
    λ f was. (
      c.in_ok-stdout.ensures.over.0,
      gives_lines g.S.Reader.Read.remaining g.F.FnMut c.read-2.new.self f c.read-2.new.each
          c.in_ok-stdout.ensures.over.0 c.args.self.streams.out.first.value
          c.args.self.streams.err.first.value c.in_ok-stdout.stdout.items
          c.in_ok-stdout.stderr.items c.read-2.ensures.both
          (c.read-2.ensures.hands f (c.read.ensures.hands f was)) c.in_ok-stdout.ensures.over.1
          (c.read-2.ensures.out ∙ c.read.ensures.out) (c.read-2.ensures.err ∙ c.read.ensures.err)
          out.0 out.1,
    )

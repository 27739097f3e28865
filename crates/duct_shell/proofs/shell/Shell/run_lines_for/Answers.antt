use Rattle.duct_shell.proofs.shell.Shell.run_lines_for.Goals as goal

pub returns-in-Ok-clause-calls : goal.returns-in-Ok-clause-calls
returns-in-Ok-clause-calls g c = (
  c.run_lines_until.new.each,
  (
    c.begin-entries.new.system,
    c.begin-entries.ensures.begins,
    record {
      now = _;
      shown = c.now.ensures;
      moment = _;
      counted = c.saturating_add-moment.ensures;
      done = c.in-Ok.ensures.run;
    },
  ),
)

pub returns-clause-calls : goal.returns-clause-calls
returns-clause-calls g c = (
  c.run_lines_until.new.each,
  (
    c.begin-entries.new.system,
    c.begin-entries.ensures.begins,
    c.in-Err.error,
    record {
      now = _;
      shown = c.now.ensures;
      moment = _;
      counted = c.saturating_add-moment.ensures;
      done = c.in-Err.ensures.run;
    },
    rw c.begin-entries.ensures.entries at c.lines_failure.ensures,
  ),
)

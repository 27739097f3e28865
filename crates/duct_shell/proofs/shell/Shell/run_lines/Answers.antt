use Rattle.duct_shell.proofs.shell.Shell.run_lines.Goals as goal

pub returns-in-Ok-clause-calls : goal.returns-in-Ok-clause-calls
returns-in-Ok-clause-calls g c = (
  c.run_lines.new.each,
  (c.begin-entries.new.system, c.begin-entries.ensures.begins, c.in-Ok.ensures.run),
)

pub returns-clause-calls : goal.returns-clause-calls
returns-clause-calls g c = (
  c.run_lines.new.each,
  (
    c.begin-entries.new.system,
    c.begin-entries.ensures.begins,
    c.in-Err.error,
    c.in-Err.ensures.run,
    rw c.begin-entries.ensures.entries at c.lines_failure.ensures,
  ),
)

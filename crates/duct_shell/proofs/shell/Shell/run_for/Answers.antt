use Rattle.duct_shell.proofs.shell.Shell.run_for.Goals as goal

pub returns-in-Ok-clause-calls : goal.returns-in-Ok-clause-calls
returns-in-Ok-clause-calls g c = (
  c.begin-entries.new.system,
  c.begin-entries.ensures.begins,
  record { now = _; shown = c.now.ensures; moment = _; counted = c.saturating_add-moment.ensures; done = c.in-Ok.ensures },
)

pub returns-in-Err-clause-calls : goal.returns-in-Err-clause-calls
returns-in-Err-clause-calls g c = (
  c.begin-entries.new.system,
  c.begin-entries.ensures.begins,
  (
    rw c.failure.ensures.cause (record { now = _; shown = c.now.ensures; moment = _; counted = c.saturating_add-moment.ensures; done = c.in-Err.ensures }),
    rw (← c.begin-entries.ensures.entries) c.failure.ensures.request,
  ),
)

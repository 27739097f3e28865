use Rattle.duct_tasks.proofs.lines.Lines.hand_on_rest.Goals as goal

pub returns-in-Err-clause-failed : goal.returns-in-Err-clause-failed
returns-in-Err-clause-failed g c = (
  c.args.each.now,
  (c.args.side, _),
  record {
    shown = c.without_end.result;
    shows = c.without_end.ensures;
    called = c.in-Err.ensures;
  },
)

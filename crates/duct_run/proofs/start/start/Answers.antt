-- What a failed run holds is given up.
use Rattle.duct_run.proofs.GivenUp.{room_left}
use Rattle.duct_run.proofs.start.start.Goals as goal

pub give_up-requires : goal.give_up-requires
give_up-requires g c =
    let l = c.requires.can.leads in
    let refused = c.in-Err.ensures.err.1 l.0 l.1 l.2 l.3 in
    record { room = room_left g.H.Hook.allows g.H.Hook.refuses g.S.End.Numbered.number_of g.S.Child.Child.child_view g.S.Feed.Job.job_view g.S.Drain.Job.job_view _ _ _ c.run.new.held _ refused }

pub returns-in-Err-clause-err : goal.returns-in-Err-clause-err
returns-in-Err-clause-err g c = record {
  held = c.run.new.held;
  stopped = g.S.System.journal_view c.run.new.sys;
  swept = c.run.new.pool;
  refused = c.in-Err.ensures.err;
  new = c.in-Err.ensures.new c.requires.unused.new;
  closes = c.give_up.ensures.closes;
  leaves = c.in-Err.ensures.pool;
  given = c.give_up.ensures.given;
}

pub returns-in-Ok-clause-ok : goal.returns-in-Ok-clause-ok
returns-in-Ok-clause-ok g c = record {
  runs = c.in-Ok.ensures.ok;
  new = c.in-Ok.ensures.new c.requires.unused.new;
  workers = c.in-Ok.ensures.workers;
  swept = c.in-Ok.ensures.pool;
}

pub run-requires : goal.run-requires
run-requires g c = record { can = c.requires.can; begun = c.requires.unused.begun }

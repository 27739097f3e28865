-- The bytes are those before, with those that the poll took.
use Rattle.std.proofs.Common.{[], append-nil, sym}
use Rattle.duct_tasks.proofs.Lining.{still_fits, taken_more}
use Rattle.duct_tasks.proofs.lines.Lines.take.Goals as goal

pub returns-then-not-self-clause-grows : goal.returns-then-not-self-clause-grows
returns-then-not-self-clause-grows g c = ([], sym (append-nil _), λ none. tt)

pub returns-in_err-fault-clause-lines : goal.returns-in_err-fault-clause-lines
returns-in_err-fault-clause-lines g c =
    let takes = c.poll.ensures.takes in
    record {
      is_stream = c.poll.ensures.stream;
      fits = still_fits c.args.self.now.told c.args.self.now.bytes.items c.poll.new.bytes.items takes.0 c.requires.fits takes.1;
      gave = taken_more _ _ _ _ _ c.requires.gave takes;
      ended = λ closed. cc;
    }

pub returns-in-Fault-clause-lines : goal.returns-in-Fault-clause-lines
returns-in-Fault-clause-lines g c =
    let takes = c.poll.ensures.takes in
    record {
      is_stream = c.poll.ensures.stream;
      fits = still_fits c.args.self.now.told c.args.self.now.bytes.items c.poll.new.bytes.items takes.0 c.requires.fits takes.1;
      gave = taken_more _ _ _ _ _ c.requires.gave takes;
      ended = λ closed. cc;
    }

-- Each kind of action by its request; only a spawn sweeps the pool.
use Rattle.duct_run.proofs.Leaving.{leaves_same, leaves_swept}
use Rattle.duct_run.proofs.Saying.{performed}
use Rattle.duct_run.proofs.run.perform_one.Goals as goal

pub returns-in-OpenRead : goal.returns-in-OpenRead
returns-in-OpenRead g c = record { performed = rw c.in-OpenRead.is (performed c.open_read.ensures); pool = leaves_same _ _ }

pub returns-in-Create : goal.returns-in-Create
returns-in-Create g c = record { performed = rw c.in-Create.is (performed c.create.ensures); pool = leaves_same _ _ }

pub returns-in-Pipe : goal.returns-in-Pipe
returns-in-Pipe g c = record { performed = rw c.in-Pipe.is (performed c.open_pipe.ensures); pool = leaves_same _ _ }

pub returns-in-Input : goal.returns-in-Input
returns-in-Input g c = record { performed = rw c.in-Input.is (performed c.open_input.ensures); pool = leaves_same _ _ }

pub returns-in-Capture : goal.returns-in-Capture
returns-in-Capture g c = record { performed = rw c.in-Capture.is (performed c.capture.ensures); pool = leaves_same _ _ }

pub returns-in-Duplicate : goal.returns-in-Duplicate
returns-in-Duplicate g c = record { performed = rw c.in-Duplicate.is (performed c.duplicate.ensures); pool = leaves_same _ _ }

pub returns-in-DuplicateCapture : goal.returns-in-DuplicateCapture
returns-in-DuplicateCapture g c = record { performed = rw c.in-DuplicateCapture.is (performed c.duplicate_capture.ensures); pool = leaves_same _ _ }

pub returns-in-DuplicateCallerEnd : goal.returns-in-DuplicateCallerEnd
returns-in-DuplicateCallerEnd g c = record { performed = rw c.in-DuplicateCallerEnd.is (performed c.duplicate_caller_end.ensures); pool = leaves_same _ _ }

pub returns-in-Parent : goal.returns-in-Parent
returns-in-Parent g c = record { performed = rw c.in-Parent.is (performed c.parent.ensures); pool = leaves_same _ _ }

pub returns-in-Close : goal.returns-in-Close
returns-in-Close g c = record { performed = rw c.in-Close.is (performed c.close.ensures); pool = leaves_same _ _ }

pub returns-in-Feed : goal.returns-in-Feed
returns-in-Feed g c = record { performed = rw c.in-Feed.is (performed c.feed.ensures); pool = leaves_same _ _ }

pub returns-in-Spawn : goal.returns-in-Spawn
returns-in-Spawn g c = record {
  performed = rw c.in-Spawn.is (record { ok = c.command.ensures.ok; err = c.command.ensures.err; new = c.command.ensures.new; workers = c.command.ensures.workers });
  pool = leaves_swept _ _ _ _ c.sweep.ensures;
}

use Rattle.std.proofs.Common.{◌≡◌, length, map}
use Rattle.duct_running.proofs.Common.{shape_view, PolledIfRuns}
use Rattle.duct_running.proofs.InTurn.{ChangedTo}
use Rattle.duct_running.proofs.running.Running.poll_feeds.Given as goal

abbrev pub invariant-loop-at : goal.invariant-loop-at
invariant-loop-at g l = record {
  shape : shape_view l.self.shape ≡ shape_view l.initial.self.shape;
  asked : ChangedTo (PolledIfRuns g.S.Feed.Job.may_say g.S.Feed.Job.same g.S.Feed.Job.refusable) l.at (map g.S.Feed.Job.job_view l.initial.self.feeds) (map g.S.Feed.Job.job_view l.self.feeds);
  count : length l.self.feeds ≡ l.at-end;
  children : l.self.children ≡ l.initial.self.children;
  output : l.self.output ≡ l.initial.self.output;
  error : l.self.error ≡ l.initial.self.error;
  kept : length l.initial.self.feeds ≡ l.at-end;
}

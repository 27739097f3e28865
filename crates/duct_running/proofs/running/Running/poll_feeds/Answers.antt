use Rattle.std.proofs.Common.{◌≤◌, refl, sym, ◌∙◌, map, length, arith, rules}
use Rattle.duct_running.proofs.Common.{length-map, PolledIfRuns}
use Rattle.duct_running.proofs.InTurn.{one_more_changed, all_changed, length_kept}
use Rattle.duct_running.proofs.running.Running.poll_feeds.Goals as goal

pub loop-at-preserved : goal.loop-at-preserved
loop-at-preserved g c =
    let view = g.S.Feed.Job.job_view in
    let i = c.loop-at.invariant in
    let same = length_kept (PolledIfRuns g.S.Feed.Job.may_say g.S.Feed.Job.same g.S.Feed.Job.refusable) c.loop-at.at _ _ c.poll_feed.ensures.asked in
    record {
      shape = c.poll_feed.ensures.shape ∙ i.shape;
      asked = one_more_changed (PolledIfRuns g.S.Feed.Job.may_say g.S.Feed.Job.same g.S.Feed.Job.refusable) c.loop-at.at _ _ _ i.asked c.poll_feed.ensures.asked;
      count = sym (length-map c.poll_feed.new.self.feeds view) ∙ same ∙ length-map c.loop-at.self.feeds view ∙ i.count;
      children = c.poll_feed.ensures.children ∙ i.children;
      output = c.poll_feed.ensures.output ∙ i.output;
      error = c.poll_feed.ensures.error ∙ i.error;
      kept = i.kept;
    }

pub returns-clause-asked : goal.returns-clause-asked
returns-clause-asked g c =
    let view = g.S.Feed.Job.job_view in
    let i = c.loop-at.invariant in
    let all : length (map view c.args.self.now.feeds) ≤ c.loop-at.at = omega (arith, length-map c.args.self.now.feeds view, i.kept, c.loop-at-test.false) in
    all_changed (PolledIfRuns g.S.Feed.Job.may_say g.S.Feed.Job.same g.S.Feed.Job.refusable) c.loop-at.at _ _ all i.asked

pub loop-at-init : goal.loop-at-init
loop-at-init g c = record { shape = refl; asked = refl; children = refl; output = refl; error = refl; count = search rules; kept = search rules }

use Rattle.duct_run.proofs.Seeing.{views_of}
use Rattle.duct_guard.proofs.Common.{Fails, Returns, draining, guard_views}
use Rattle.duct_guard.proofs.Reading.{done, grows, left_of, never_cleared}
use Rattle.duct_guard.proofs.under.run_fixed.Goals as goal

pub returns-clause-run : goal.returns-clause-run
returns-clause-run g c =
    let views = guard_views (views_of g.S.System g.S.End.Numbered g.S.Child.Child g.S.Feed.Job g.S.Drain.Job) in
    let made = c.new-guarded.ensures in
    let called = done views g.H.Hook.allows g.H.Hook.refuses c.args.expression.now draining (Returns views) (Fails views) (c.new-guarded.result, c.args.pool.now)
    c.run-output.result (c.run-output.new.sys, c.run-output.new.pool) c.run-output.ensures.output c.run-output.ensures.failed in
    let nothing = never_cleared _ _ _ _ made.journal (grows views _ _ _ _ _ _ _ _ _ called) c.ended.ensures.begun in
    record {
      begun = c.new-guarded.result;
      inner_is = made.inner;
      journal_is = made.journal;
      ended = c.run-output.new.sys;
      done = rw c.ended.ensures.returned called;
      is_left = left_of _ _ _ _ _ _ nothing c.ended.ensures.left;
    }

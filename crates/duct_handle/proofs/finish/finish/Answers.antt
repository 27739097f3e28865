use Rattle.duct_handle.proofs.Common.{views_of}
use Rattle.duct_handle.proofs.Finishing.{finished, stopped}
use Rattle.duct_handle.proofs.finish.finish.Goals as goal

pub returns-clause-output : goal.returns-clause-output
returns-clause-output g c =
    let views = views_of g.S.System g.S.End.Numbered g.S.Child.Child g.S.Feed.Job g.S.Drain.Job in
    let waited = c.wait_for-waited.ensures in
    finished views c.args.running c.wait_for-waited.new.running waited.stays waited.allowed c.wait_for-waited.result
    c.output_or_give_up.result waited.outcome c.output_or_give_up.ensures.ok

pub returns-clause-failed : goal.returns-clause-failed
returns-clause-failed g c =
    let views = views_of g.S.System g.S.End.Numbered g.S.Child.Child g.S.Feed.Job g.S.Drain.Job in
    let waited = c.wait_for-waited.ensures in
    stopped views c.args.running c.wait_for-waited.new.running waited.stays waited.allowed c.wait_for-waited.result
    c.output_or_give_up.result c.args.pool.now c.output_or_give_up.new.pool waited.outcome
    c.output_or_give_up.ensures.err c.output_or_give_up.ensures.given

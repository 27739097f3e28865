use Rattle.duct_handle.proofs.Common.{views_of}
use Rattle.duct_handle.proofs.Reading.{fails_to_read}
use Rattle.duct_handle.proofs.read.read_text.Goals as goal

pub returns-clause-failed : goal.returns-clause-failed
returns-clause-failed g c =
    let views = views_of g.S.System g.S.End.Numbered g.S.Child.Child g.S.Feed.Job g.S.Drain.Job in
    let fails = fails_to_read views c.args.running c.read_all.new.running _ _ c.in-Err.error c.args.pool.now c.give_up.new.pool
    c.in-Err.ensures.failed c.give_up.ensures in
    rw c.new.ensures.inner at fails

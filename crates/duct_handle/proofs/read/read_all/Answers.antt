use Rattle.duct_handle.proofs.Common.{views_of}
use Rattle.duct_handle.proofs.Reading.{no_text}
use Rattle.duct_handle.proofs.read.read_all.Goals as goal

pub returns-clause-failed : goal.returns-clause-failed
returns-clause-failed g c =
    let views = views_of g.S.System g.S.End.Numbered g.S.Child.Child g.S.Feed.Job g.S.Drain.Job in
    let waited = c.in_ok-wait_for.ensures in
    no_text views c.args.running.now c.wait_for.new.running waited.stays waited.allowed c.in_ok-wait_for.field-0 waited.outcome
    c.in_ok-bytes.bytes.items _ c.in_ok-bytes.ensures.bytes c.text_of.result _ c.text_of.ensures.err

-- A start of a whole tree that is read to EOF.
use Rattle.std.proofs.Common.{inl, inr, false, is_some}
use Rattle.std.proofs.lemmas.Result.{err_from_is_err_and}
use Rattle.duct_start.specs.Plan.{plan_of_reader}
use Rattle.duct_run.proofs.Seeing.{views_of}
use Rattle.duct_running.proofs.Launched.{launched_unordered}
use Rattle.duct.specs.Launched.{added_between, reading}
use Rattle.duct.specs.TreeView.{tree_view}
use Rattle.duct.proofs.Finished.{if_err_with, if_ok_both, ran_tree, read_failed}
use Rattle.duct.proofs.expression.Expression.read.Goals as goal

pub returns-in_err-running-clause-failed : goal.returns-in_err-running-clause-failed
returns-in_err-running-clause-failed g c =
    let p = err_from_is_err_and c.from_residual.result c.from_residual.ensures.1 in
    rw (p.1, p.2) (inl c.in_err-running.ensures.refused)

pub returns-clause-text : goal.returns-clause-text
returns-clause-text g c =
    let views = views_of g.S.System g.E.Numbered g.S.Child.Child g.S.Feed.Job g.S.Drain.Job in
    let tree = tree_view c.args.self.now in
    let added = added_between views c.args.sys.now c.launch_reader.new.sys in
    let l = c.in_ok-running.ensures.launched in
    if_ok_both c.read_text.result (λ text reads kept. record {
      asked = l.asked;
      makes = (
        reads.0,
        ran_tree views tree false (is_some (plan_of_reader tree).pipes.err) added c.in_ok-running.running l.makes.0 reads.0 reads.1,
        (c.in_ok-running.reader, l.makes.1, reads.2),
      );
      swept = rw kept l.swept;
    }) c.read_text.ensures.text c.read_text.ensures.kept

pub returns-clause-failed : goal.returns-clause-failed
returns-clause-failed g c =
    let views = views_of g.S.System g.E.Numbered g.S.Child.Child g.S.Feed.Job g.S.Drain.Job in
    let l = c.in_ok-running.ensures.launched in
    if_err_with c.read_text.result (λ e fails. inr (read_failed views g.H.Hook.allows reading c.args.self.now c.args.sys.now c.launch_reader.new.sys
    c.args.pool.now c.launch_reader.new.pool c.read_text.new.pool l.asked c.in_ok-running.running l.makes.0 l.swept
    g.S.System.may_read g.S.Reader.Read.remaining c.in_ok-running.reader l.makes.1 e fails)) c.read_text.ensures.failed

pub read_text-requires : goal.read_text-requires
read_text-requires g c =
    launched_unordered (views_of g.S.System g.E.Numbered g.S.Child.Child g.S.Feed.Job g.S.Drain.Job) c.in_ok-running.ensures.launched.makes.0

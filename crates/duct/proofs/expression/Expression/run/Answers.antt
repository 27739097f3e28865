-- A start of a whole tree that is waited for.
use Rattle.std.proofs.Common.{inl, inr, is_some}
use Rattle.std.proofs.lemmas.Result.{err_from_is_err_and}
use Rattle.duct_start.specs.Plan.{plan_of}
use Rattle.duct_run.proofs.Seeing.{views_of}
use Rattle.duct_running.proofs.Launched.{launched_unordered}
use Rattle.duct_handle.specs.Finished.{StoresError}
use Rattle.duct.specs.Launched.{Fails, added_between, draining}
use Rattle.duct.specs.TreeView.{tree_view}
use Rattle.duct.proofs.Finished.{if_err_with, if_ok_both, ran_tree, wait_failed}
use Rattle.duct.proofs.expression.Expression.run.Goals as goal

pub returns-in_err-running-clause-failed : goal.returns-in_err-running-clause-failed
returns-in_err-running-clause-failed g c =
    let p = err_from_is_err_and c.from_residual.result c.from_residual.ensures.1 in
    rw (p.1, p.2) (inl c.in_err-running.ensures.refused)

pub returns-clause-output : goal.returns-clause-output
returns-clause-output g c =
    let views = views_of g.S.System g.E.Numbered g.S.Child.Child g.S.Feed.Job g.S.Drain.Job in
    let tree = tree_view c.args.self.now in
    let added = added_between views c.args.sys.now c.launch.new.sys in
    let l = c.in_ok-running.ensures.launched in
    if_ok_both c.finish.result (λ output ran kept. record {
      asked = l.asked;
      makes = (
        ran.0,
        ran_tree views tree (is_some (plan_of tree).pipes.out) (is_some (plan_of tree).pipes.err) added c.in_ok-running.running l.makes ran.0 ran.1,
        ran.2,
      );
      swept = rw kept l.swept;
    }) c.finish.ensures.output c.finish.ensures.kept

pub returns-clause-failed : goal.returns-clause-failed
returns-clause-failed g c =
    let views = views_of g.S.System g.E.Numbered g.S.Child.Child g.S.Feed.Job g.S.Drain.Job in
    let l = c.in_ok-running.ensures.launched in
    if_err_with c.finish.result (λ e ran. inr (wait_failed views g.H.Hook.allows draining c.args.self.now c.args.sys.now c.launch.new.sys
    c.args.pool.now c.launch.new.pool c.finish.new.pool l.asked c.in_ok-running.running l.makes l.swept
    (λ waited. StoresError views waited e) (Fails views e) (λ waited stores. stores) ran)) c.finish.ensures.failed

pub finish-requires : goal.finish-requires
finish-requires g c =
    launched_unordered (views_of g.S.System g.E.Numbered g.S.Child.Child g.S.Feed.Job g.S.Drain.Job) c.in_ok-running.ensures.launched.makes

-- From the environment to the last action.
use Rattle.std.proofs.Common.{refl, map}
use Rattle.duct_run.proofs.Common.{err_from_is_err_and, IfErr-weaker, on_ok_weaker, pair_text, with_plan, pool_view, context_of}
use Rattle.duct_run.proofs.Leaving.{leaves_same}
use Rattle.duct_run.proofs.RunContract.{environment_refused, stood_begun}
use Rattle.duct_run.proofs.start.run_actions.Goals as goal

pub returns-in_err-pairs-clause-err : goal.returns-in_err-pairs-clause-err
returns-in_err-pairs-clause-err g c =
    let p = err_from_is_err_and c.from_residual.result c.from_residual.ensures.1 in
    rw (p.1, p.2) (environment_refused c.requires.begun c.in_err-pairs.ensures.err)

pub returns-in_err-pairs-clause-pool : goal.returns-in_err-pairs-clause-pool
returns-in_err-pairs-clause-pool g c = leaves_same g.S.Child.Child.may_answer (pool_view g.S.Child.Child.child_view c.args.pool.now)

pub perform_all-requires-clause-stood : goal.perform_all-requires-clause-stood
perform_all-requires-clause-stood g c =
    let l = c.requires.leads in
    let context = context_of (g.S.System.journal_view c.args.sys.now) l.0 l.1 (map pair_text c.in_ok-pairs.pairs.items) in
    (context, with_plan l.2, refl, stood_begun c.requires.begun refl l.3 c.in_ok-pairs.ensures.ok)

pub returns-clause-ok : goal.returns-clause-ok
returns-clause-ok g c =
    let pairs = map pair_text c.in_ok-pairs.pairs.items in
    on_ok_weaker c.perform_all.result (λ done. (
      pairs,
      λ base bound plan leads. done _ (with_plan plan) refl (stood_begun c.requires.begun refl leads c.in_ok-pairs.ensures.ok),
    )) c.perform_all.ensures.ok

pub returns-clause-err : goal.returns-clause-err
returns-clause-err g c =
    let pairs = map pair_text c.in_ok-pairs.pairs.items in
    IfErr-weaker c.perform_all.result _ _ (λ e refused. (
      pairs,
      λ base bound plan leads. refused _ (with_plan plan) refl (stood_begun c.requires.begun refl leads c.in_ok-pairs.ensures.ok),
    )) c.perform_all.ensures.err

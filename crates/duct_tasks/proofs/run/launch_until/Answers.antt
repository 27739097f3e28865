use Rattle.std.proofs.Common.{◌≡◌, inl, inr, refl, []}
use Rattle.duct_tasks.proofs.Common.{All-map, err_from_is_err_and, views_of, Fails, draining}
use Rattle.duct_handle.specs.Finished.{StoresError}
use Rattle.duct.proofs.Finished.{ran_tree, wait_failed}
use Rattle.duct_tasks.proofs.Ending.{was_late}
use Rattle.duct_tasks.proofs.Staying.{alike, stays_on}
use Rattle.duct_tasks.proofs.run.launch_until.Goals as goal

pub returns-in_err-running-clause-failed : goal.returns-in_err-running-clause-failed
returns-in_err-running-clause-failed g c =
    let p = err_from_is_err_and c.from_residual.result c.from_residual.ensures.1 in
    let refused = c.in_err-running.ensures.refused in
    rw (p.1, p.2) (inl refused)

pub closed-requires-clause-unordered : goal.closed-requires-clause-unordered
closed-requires-clause-unordered g c =
    let views = views_of g.S.System g.E.Numbered g.S.Child.Child g.S.Feed.Job g.S.Drain.Job in
    (ran_tree views _ _ _ _ _ c.in_ok-running.ensures.launched.makes c.watch.new.running
    c.watch.ensures.stays).unordered

pub closed-requires-clause-ended : goal.closed-requires-clause-ended
closed-requires-clause-ended g c = rw c.in-Some.is at c.watch.ensures.stores.outcome

pub stop-requires-clause-unordered : goal.stop-requires-clause-unordered
stop-requires-clause-unordered g c =
    let views = views_of g.S.System g.E.Numbered g.S.Child.Child g.S.Feed.Job g.S.Drain.Job in
    All-map (λ d. d.orders ≡ []) views.child c.watch.new.running.children
    (ran_tree views _ _ _ _ _ c.in_ok-running.ensures.launched.makes c.watch.new.running
    c.watch.ensures.stays).unordered

pub returns-in-Ok-clause-done : goal.returns-in-Ok-clause-done
returns-in-Ok-clause-done g c =
    let views = views_of g.S.System g.E.Numbered g.S.Child.Child g.S.Feed.Job g.S.Drain.Job in
    let l = c.in_ok-running.ensures.launched in
    let ran = c.in-Ok.ensures.output in
    let stays = stays_on c.watch.ensures.stays ran.1 in
    record {
      asked = l.asked;
      makes = (
        (ran.0, ran_tree views _ _ _ _ _ l.makes ran.0 stays, ran.2),
        elim c.watch.ensures.in_time [
          | inl less ↦ inl (less.1 refl)
          | inr once ↦ inr (
            c.in_ok-running.running,
            l.makes,
            c.watch.new.running,
            once,
            c.in-Some.ended,
            rw c.in-Some.is at c.watch.ensures.stores.outcome,
          )
        ],
      );
      swept = rw c.in-Ok.ensures.kept l.swept;
    }

pub returns-in-Err-clause-failed : goal.returns-in-Err-clause-failed
returns-in-Err-clause-failed g c =
    let views = views_of g.S.System g.E.Numbered g.S.Child.Child g.S.Feed.Job g.S.Drain.Job in
    let l = c.in_ok-running.ensures.launched in
    let e = c.in-Err.error in
    let ran = c.in-Err.ensures.failed in
    inr (wait_failed views g.H.Hook.allows draining c.args.expression.now c.args.sys.now
    c.launch.new.sys
    c.args.pool.now c.launch.new.pool c.closed.new.pool l.asked c.in_ok-running.running l.makes
    l.swept
    (λ waited. StoresError views waited e) (Fails views e) (λ waited stores. stores)
    (ran.0, stays_on c.watch.ensures.stays ran.1, ran.2))

pub returns-in-None-clause-stopped : goal.returns-in-None-clause-stopped
returns-in-None-clause-stopped g c =
    let views = views_of g.S.System g.E.Numbered g.S.Child.Child g.S.Feed.Job g.S.Drain.Job in
    was_late views g.H.Hook.allows g.H.Hook.refuses c.args.expression.now c.stop.result.0
    (c.args.sys.now, c.args.pool.now) (c.launch.new.sys, c.launch.new.pool)
    (c.stop.new.sys, c.stop.new.pool) c.in_ok-running.running c.watch.new.running
    c.stop.result.1.running c.in_ok-running.ensures.launched
    (alike views _ _ c.watch.ensures.stays) (rw c.in-None.is at c.watch.ensures.runs)
    c.stop.ensures.stopped

use Rattle.std.proofs.Common.{◌≡◌, ◌++◌, ◌∙◌, [], All, Ok, ap, inl, inr, map, refl, sym, true}
use Rattle.std.specs.Duration.{as_nanos}
use Rattle.duct_system.specs.declared.error.Error.TheVariants as error
use Rattle.duct_start.specs.ShapeOfTree.{shape_of_tree}
use Rattle.duct_tree.specs.NodeView.{node_view}
use Rattle.duct_running.specs.Stored.{stored_in}
use Rattle.duct_handle.specs.Finished.{StoresError}
use Rattle.duct_handle.specs.ReadsText.{IsFault}
use Rattle.duct.proofs.Finished.{ran_tree, wait_failed}
use Rattle.duct.specs.Launched.{reading}
use Rattle.duct_system.specs.Child.{IsUnasked}
use Rattle.duct_tasks.proofs.Common.{All-map, err_from_is_err_and, views_of}
use Rattle.duct_tasks.proofs.Attending.{launch_stopped, stops_inside}
use Rattle.duct_tasks.proofs.Handing.{gives_lines, handed_none, ok_before}
use Rattle.duct_tasks.proofs.Staying.{alike, stays_same}
use Rattle.duct_tasks.specs.LinesRun.{FailsLines, WroteUntil}
use Rattle.duct_tasks.specs.Statuses.{command_view, commands_in, with_reports, words_of}
use Rattle.duct_tasks.specs.Streams.{Hands}
use Rattle.duct_tasks.proofs.attended.run_lines_until.Goals as goal

pub returns-in-Err : goal.returns-in-Err
returns-in-Err g c =
    let views = views_of g.S.System g.S.End.Numbered g.S.Child.Child g.S.Feed.Job g.S.Drain.Job in
    let inside = c.in_ok-inside.inside in
    let l = c.in_ok-running.ensures.launched in
    let running = c.in_ok-running.running in
    let e = error.System c.in-Err.fault in
    record {
      run = inl (
        c.piped.new.sys,
        inside,
        c.in_ok-inside.err,
        c.in_ok-inside.ensures.ok,
        inl (inr (wait_failed views g.H.Hook.allows reading inside c.piped.new.sys
            c.launch_reader.new.sys c.args.pool.now c.launch_reader.new.pool c.give_up.new.pool
            l.asked running l.makes.0 l.swept
            (λ w. IsFault e × All (λ d. IsUnasked (views.child d)) w.children)
            (FailsLines views e) (λ w fails. inr fails) (
              running,
              stays_same running,
              (((c.in-Err.fault, refl), l.makes.0.unasked), c.give_up.ensures),
            ))),
      );
    }

pub returns-in_err-finish-in-Some : goal.returns-in_err-finish-in-Some
returns-in_err-finish-in-Some g c =
    let views = views_of g.S.System g.S.End.Numbered g.S.Child.Child g.S.Feed.Job g.S.Drain.Job in
    let inside = c.in_ok-inside.inside in
    let l = c.in_ok-running.ensures.launched in
    let p = err_from_is_err_and c.from_residual-in_err-finish-in-Some.result
    c.from_residual-in_err-finish-in-Some.ensures.1 in
    let failed = c.in_err-finish-in-Some.ensures.failed in
    rw (p.1, p.2, failed.1) (record {
      run = inl (
        c.piped.new.sys,
        inside,
        c.in_ok-inside.err,
        c.in_ok-inside.ensures.ok,
        inl (inr (wait_failed views g.H.Hook.allows reading inside c.piped.new.sys
            c.launch_reader.new.sys c.args.pool.now c.launch_reader.new.pool c.finish.new.pool
            l.asked c.in_ok-running.running l.makes.0 l.swept
            (λ w. StoresError views w failed.0) (FailsLines views failed.0) (λ w fails. inl fails)
            (c.wait.new.self.running, c.wait.ensures.stays, (failed.2, failed.3)))),
      );
    })

pub stop-requires-clause-unordered : goal.stop-requires-clause-unordered
stop-requires-clause-unordered g c =
    let views = views_of g.S.System g.S.End.Numbered g.S.Child.Child g.S.Feed.Job g.S.Drain.Job in
    λ lifetimes fit. All-map (λ d. d.orders ≡ []) views.child c.wait.new.self.running.children
    (ran_tree views _ _ _ _ _ c.in_ok-running.ensures.launched.makes.0
    c.wait.new.self.running c.wait.ensures.stays).unordered

pub returns-in_err-stop-in-None : goal.returns-in_err-stop-in-None
returns-in_err-stop-in-None g c =
    let views = views_of g.S.System g.S.End.Numbered g.S.Child.Child g.S.Feed.Job g.S.Drain.Job in
    let inside = c.in_ok-inside.inside in
    let p = err_from_is_err_and c.from_residual-in_err-stop-in-None.result
    c.from_residual-in_err-stop-in-None.ensures.1 in
    let stopped = c.in_err-stop-in-None.ensures.stopped in
    rw (p.1, p.2) (record {
      run = inl (
        c.piped.new.sys,
        inside,
        c.in_ok-inside.err,
        c.in_ok-inside.ensures.ok,
        stops_inside views g.S.System.may_read g.S.Reader.Read.remaining
            (Hands g.F.FnMut) g.H.Hook.allows g.H.Hook.refuses c.args.expression.now
            c.args.deadline.now.grace (g.C.Clock.may_show c.args.deadline.now.clock.now)
            (as_nanos c.args.deadline.now.moment) c.args.each.now c.stop.new.each
            (c.piped.new.sys, c.args.pool.now) inside c.in_ok-inside.err
            c.in_err-stop-in-None.field-0.0 (c.stop.new.sys, c.stop.new.pool) stopped.0
            (c.in_err-stop-in-None.ensures.failed c.args.each.now (c.wait.ensures.hands
            c.args.each.now (handed_none g.S.Reader.Read.remaining g.F.FnMut c.in-Ok.streams
            c.args.each.now c.in-Ok.ensures.both c.in-Ok.ensures.none c.in-Ok.ensures.no_output
            c.in-Ok.ensures.no_error)))
            (launch_stopped views g.S.System.may_read g.H.Hook.allows g.H.Hook.refuses inside
            (c.piped.new.sys, c.args.pool.now) (c.launch_reader.new.sys, c.launch_reader.new.pool)
            c.in_ok-running.running c.wait.new.self.running c.in_ok-running.out
            c.in_ok-running.ensures.launched (alike views _ _ c.wait.ensures.stays)
            (λ polled kind tree added. Unit {0}) stopped.0 (c.stop.new.sys, c.stop.new.pool)
            stopped.2 (λ polled. tt)),
      );
    })

pub returns-in_ok-finish-in-Some : goal.returns-in_ok-finish-in-Some
returns-in_ok-finish-in-Some g c =
    let views = views_of g.S.System g.S.End.Numbered g.S.Child.Child g.S.Feed.Job g.S.Drain.Job in
    let inside = c.in_ok-inside.inside in
    let l = c.in_ok-running.ensures.launched in
    let running = c.wait.new.self.running in
    let done = c.in_ok-finish-in-Some.ensures in
    let reports = (stored_in views.child views.feed views.drain running).commands in
    let words = c.in_ok-add_commands.ensures
    ∙ ap (λ xs. map words_of xs ++ commands_in (shape_of_tree (node_view c.root.result.now)))
    c.new-commands.ensures.items ∙ ap (λ t. commands_in (shape_of_tree t)) c.root.ensures
    ∙ ap (λ t. commands_in (shape_of_tree t)) (sym c.in_ok-inside.ensures.ok.tree) in
    record {
      run = inl (
        c.piped.new.sys,
        inside,
        c.in_ok-inside.err,
        c.in_ok-inside.ensures.ok,
        record {
          asked = l.asked;
          makes = record {
            output = done.status.0;
            status = done.status.1;
            each = (
              running,
              ran_tree views _ _ _ _ _ l.makes.0 running c.wait.ensures.stays,
              done.status.2,
              ap (λ v. map command_view v.items) done.commands
                  ∙ c.in-Some.ensures.noted (ok_before _ _ (λ e. e) true c.in-Some.ensures.over)
                  ∙ ap (λ w. with_reports w reports) words,
            );
            gives = (
              c.in_ok-running.out,
              l.makes.1,
              gives_lines g.S.Reader.Read.remaining g.F.FnMut c.wait.new.self.streams c.args.each.now
                  c.wait.new.each true c.in_ok-running.out c.in_ok-inside.err
                  c.in_ok-finish-in-Some.field-0.output.stdout.items
                  c.in_ok-finish-in-Some.field-0.output.stderr.items c.wait.ensures.both
                  (c.wait.ensures.hands c.args.each.now (handed_none g.S.Reader.Read.remaining
                  g.F.FnMut c.in-Ok.streams c.args.each.now c.in-Ok.ensures.both
                  c.in-Ok.ensures.none c.in-Ok.ensures.no_output c.in-Ok.ensures.no_error))
                  c.in-Some.ensures.over (c.wait.ensures.out ∙ c.in-Ok.ensures.out)
                  (c.wait.ensures.err ∙ c.in-Ok.ensures.err) done.stdout done.stderr,
            );
            in_time = elim c.in-Some.ensures.in_time [
              | inl less ↦ inl less
              | inr once ↦ inr (
                c.in_ok-running.running,
                l.makes.0,
                running,
                once,
                c.in-Some.ended,
                c.in-Some.ensures.stores.outcome,
              )
            ];
          };
          swept = rw done.kept l.swept;
        },
      );
    }

pub returns-in_ok-stop-in-None : goal.returns-in_ok-stop-in-None
returns-in_ok-stop-in-None g c =
    let views = views_of g.S.System g.S.End.Numbered g.S.Child.Child g.S.Feed.Job g.S.Drain.Job in
    let inside = c.in_ok-inside.inside in
    let l = c.in_ok-running.ensures.launched in
    let running = c.wait.new.self.running in
    let late = c.in_ok-stop-in-None.field-0 in
    let done = c.in_ok-stop-in-None.ensures in
    let reports = (stored_in views.child views.feed views.drain running).commands in
    let words = c.in_ok-add_commands.ensures
    ∙ ap (λ xs. map words_of xs ++ commands_in (shape_of_tree (node_view c.root.result.now)))
    c.new-commands.ensures.items ∙ ap (λ t. commands_in (shape_of_tree t)) c.root.ensures
    ∙ ap (λ t. commands_in (shape_of_tree t)) (sym c.in_ok-inside.ensures.ok.tree) in
    let out_is = c.wait.ensures.out ∙ c.in-Ok.ensures.out in
    let err_is = c.wait.ensures.err ∙ c.in-Ok.ensures.err in
    let gave = done.gives c.args.each.now (c.wait.ensures.hands c.args.each.now (handed_none
    g.S.Reader.Read.remaining g.F.FnMut c.in-Ok.streams c.args.each.now c.in-Ok.ensures.both
    c.in-Ok.ensures.none c.in-Ok.ensures.no_output c.in-Ok.ensures.no_error)) in
    record {
      run = inl (
        c.piped.new.sys,
        inside,
        c.in_ok-inside.err,
        c.in_ok-inside.ensures.ok,
        (
          done.late,
          launch_stopped views g.S.System.may_read g.H.Hook.allows g.H.Hook.refuses inside
              (c.piped.new.sys, c.args.pool.now)
              (c.launch_reader.new.sys, c.launch_reader.new.pool)
              c.in_ok-running.running running c.in_ok-running.out l
              (alike views _ _ c.wait.ensures.stays)
              (WroteUntil views g.S.System.may_read g.S.Reader.Read.remaining
              (Hands g.F.FnMut (Ok tt)) c.args.each.now c.stop.new.each c.in_ok-inside.err late)
              late.late (c.stop.new.sys, c.stop.new.pool) (rw done.stopped.1 done.stopped.2)
              (λ polled. (
                (gave.0, (c.in_ok-running.out, l.makes.1, rw (← out_is, ← err_is) gave.1)),
                (
                  running,
                  ran_tree views _ _ _ _ _ l.makes.0 running c.wait.ensures.stays,
                  ap (λ v. map command_view v.items) done.commands ∙ c.wait.ensures.noted done.ok
                      ∙ ap (λ w. with_reports w reports) words,
                ),
              )),
        ),
      );
    }

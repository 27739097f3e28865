-- A run that is waited for, whose reports are read before what ran is spent.
use Rattle.std.proofs.Common.{◌++◌, ◌∙◌, All, ap, inl, inr, map, subst, sym, Err, List}
use Rattle.std.proofs.lemmas.Result.{err_from_is_err_and}
use Rattle.duct_status.specs.ShapeView.{shape_view}
use Rattle.duct_start.specs.ShapeOfTree.{shape_of_tree}
use Rattle.duct_tree.specs.NodeView.{node_view}
use Rattle.duct_run.proofs.Seeing.{views_of}
use Rattle.duct_running.specs.Stored.{stored_in}
use Rattle.duct_handle.specs.Finished.{StoresError}
use Rattle.duct_handle.proofs.Finishing.{stopped}
use Rattle.duct.specs.Launched.{Fails, draining}
use Rattle.duct.specs.TreeView.{tree_view}
use Rattle.duct.proofs.Finished.{ran_tree, wait_failed}
use Rattle.duct_tasks.specs.Statuses.{CommandView, HasEnded, commands_in, with_reports, words_of}
use Rattle.duct_tasks.proofs.AllEnded.{all_ended}
use Rattle.duct_tasks.proofs.Capturing.{stores_reply}
use Rattle.duct_tasks.proofs.capture.run_captured.Goals as goal

pub returns-in_err-output-clause-run : goal.returns-in_err-output-clause-run
returns-in_err-output-clause-run g c =
    let views = views_of g.S.System g.S.End.Numbered g.S.Child.Child g.S.Feed.Job g.S.Drain.Job in
    let inside = c.in_ok-with_captures.field-0 in
    let l = c.in_ok-running.ensures.launched in
    let waited = c.wait_for-waited.ensures in
    let e = c.in_err-output.field-0.0 in
    let p = err_from_is_err_and c.from_residual-in_err-output.result c.from_residual-in_err-output.ensures.1 in
    rw (p.1, p.2) (inl (
      inside,
      c.in_ok-with_captures.ensures.tree,
      inr (wait_failed views g.H.Hook.allows draining inside c.args.system.now c.launch.new.sys
          c.args.pool.now c.launch.new.pool c.output_or_give_up.new.pool l.asked c.in_ok-running.running l.makes l.swept
          (λ w. StoresError views w e) (Fails views e) (λ w stores. stores)
          (stopped views c.in_ok-running.running c.wait_for-waited.new.running waited.stays waited.allowed c.wait_for-waited.result
          (Err e) c.launch.new.pool c.output_or_give_up.new.pool waited.outcome c.in_err-output.ensures.err c.in_err-output.ensures.given)),
    ))

pub returns-clause-run : goal.returns-clause-run
returns-clause-run g c =
    let views = views_of g.S.System g.S.End.Numbered g.S.Child.Child g.S.Feed.Job g.S.Drain.Job in
    let made = c.in_ok-with_captures.ensures.tree in
    let l = c.in_ok-running.ensures.launched in
    let waited = c.wait_for-waited.ensures in
    let words = c.in_ok-add_commands.ensures
    ∙ ap (λ xs. map words_of xs ++ commands_in (shape_of_tree (node_view c.root.result.now))) c.new-commands.ensures.items
    ∙ ap (λ t. commands_in (shape_of_tree t)) c.root.ensures ∙ ap (λ t. commands_in (shape_of_tree t)) (sym made) in
    let each = c.noted-commands.ensures ∙ ap (λ w. with_reports w c.reports.result.now) words
    ∙ ap (with_reports (commands_in (shape_of_tree (tree_view c.in_ok-with_captures.field-0)))) c.reports.ensures in
    inl (
      c.in_ok-with_captures.field-0,
      made,
      record {
        asked = l.asked;
        makes = (
          c.wait_for-waited.new.running,
          ran_tree views _ _ _ _ _ l.makes c.wait_for-waited.new.running waited.stays,
          stores_reply views c.wait_for-waited.new.running waited.allowed c.wait_for-waited.result c.in_ok-output.output waited.outcome c.in_ok-output.ensures.ok,
          each,
        );
        swept = rw c.in_ok-output.ensures.kept l.swept;
      },
    )

pub returns-clause-ended : goal.returns-clause-ended
returns-clause-ended g c =
    let views = views_of g.S.System g.S.End.Numbered g.S.Child.Child g.S.Feed.Job g.S.Drain.Job in
    let made = c.in_ok-with_captures.ensures.tree in
    let waited = c.wait_for-waited.ensures in
    let after = c.wait_for-waited.new.running in
    let latest = stored_in views.child views.feed views.drain after in
    let shape = shape_view after.shape in
    let own = c.in_ok-output.output in
    let ran = ran_tree views _ _ _ _ _ c.in_ok-running.ensures.launched.makes after waited.stays in
    let stores = stores_reply views after waited.allowed c.wait_for-waited.result c.in_ok-output.output waited.outcome c.in_ok-output.ensures.ok in
    let words = c.in_ok-add_commands.ensures
    ∙ ap (λ xs. map words_of xs ++ commands_in (shape_of_tree (node_view c.root.result.now))) c.new-commands.ensures.items
    ∙ ap (λ t. commands_in (shape_of_tree t)) c.root.ensures ∙ ap (λ t. commands_in (shape_of_tree t)) (sym made)
    ∙ ap commands_in (sym ran.shape_is) in
    let each = c.noted-commands.ensures ∙ ap (λ w. with_reports w c.reports.result.now) words
    ∙ ap (with_reports (commands_in shape)) c.reports.ensures in
    subst (λ (commands : List CommandView). All HasEnded commands) (sym each) (all_ended shape latest own.status own.stdout.items own.stderr.items stores.concludes)

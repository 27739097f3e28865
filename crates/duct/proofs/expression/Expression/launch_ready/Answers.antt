-- A start of a whole tree, from what was allocated for it.
use Rattle.std.proofs.Common.{◌∙◌, [], ap, sym}
use Rattle.std.proofs.lemmas.Result.{err_from_is_err_and}
use Rattle.std.specs.Arc.{arc_value}
use Rattle.duct_status.specs.CoreView.{shape_in}
use Rattle.duct_status.specs.Latest.{latest_told}
use Rattle.duct_status.specs.ShapeView.{command_count, input_count}
use Rattle.duct_run.proofs.Launched.{reads_out, some_leads}
use Rattle.duct_run.proofs.Seeing.{views_of}
use Rattle.duct_run.specs.RunContract.{tree_for}
use Rattle.duct.specs.TreeView.{tree_view}
use Rattle.duct.proofs.Launching.{asked, gave_up, made, started_children, started_feeds, workers}
use Rattle.duct.proofs.Starting.{outwards, runs_flat, within}
use Rattle.duct.proofs.expression.Expression.launch_ready.Goals as goal

pub start-requires-clause-can : goal.start-requires-clause-can
start-requires-clause-can g c =
    let tree = tree_view c.args.self.now in
    let listed = tree_for c.args.kind tree in
    let same = runs_flat listed c.deref.ensures.value c.deref-2.ensures.value c.requires.list in
    record {
      outwards = outwards listed c.deref.ensures.value c.deref-2.ensures.value c.requires.list;
      within = within listed c.deref.ensures.value c.deref-2.ensures.value c.requires.list;
      leads = some_leads g.H.Hook.allows g.E.Numbered.number_of c.args.kind tree _ same;
      opens = reads_out g.H.Hook.allows g.E.Numbered.number_of c.args.kind tree _ same;
    }

pub returns-in_err-kept-clause-refused : goal.returns-in_err-kept-clause-refused
returns-in_err-kept-clause-refused g c =
    let p = err_from_is_err_and c.from_residual.result c.from_residual.ensures.1 in
    let views = views_of g.S.System g.E.Numbered g.S.Child.Child g.S.Feed.Job g.S.Drain.Job in
    let same = runs_flat (tree_for c.args.kind (tree_view c.args.self.now)) c.deref.ensures.value c.deref-2.ensures.value c.requires.list in
    rw (p.1, p.2) (gave_up views c.args.kind c.args.self.now same c.in_err-kept.ensures.err)

pub running_of-requires-clause-silent : goal.running_of-requires-clause-silent
running_of-requires-clause-silent g c =
    let views = views_of g.S.System g.E.Numbered g.S.Child.Child g.S.Feed.Job g.S.Drain.Job in
    let same = runs_flat (tree_for c.args.kind (tree_view c.args.self.now)) c.deref.ensures.value c.deref-2.ensures.value c.requires.list in
    let pipes = workers views c.args.kind c.args.self.now same g.H.Hook.allows c.in_ok-kept.ensures.ok.workers in
    c.requires.silent ∙ (λ i. latest_told (shape_in c.args.ready.core) (record { out = sym pipes.0 i; err = sym pipes.1 i }) [])

pub running_of-requires-clause-commands : goal.running_of-requires-clause-commands
running_of-requires-clause-commands g c =
    let views = views_of g.S.System g.E.Numbered g.S.Child.Child g.S.Feed.Job g.S.Drain.Job in
    let same = runs_flat (tree_for c.args.kind (tree_view c.args.self.now)) c.deref.ensures.value c.deref-2.ensures.value c.requires.list in
    started_children views c.args.kind c.args.self.now same c.in_ok-kept.kept c.in_ok-kept.ensures.ok.runs ∙ ap (λ s. command_count s) (sym c.requires.shape_is)

pub running_of-requires-clause-inputs : goal.running_of-requires-clause-inputs
running_of-requires-clause-inputs g c =
    let views = views_of g.S.System g.E.Numbered g.S.Child.Child g.S.Feed.Job g.S.Drain.Job in
    let same = runs_flat (tree_for c.args.kind (tree_view c.args.self.now)) c.deref.ensures.value c.deref-2.ensures.value c.requires.list in
    started_feeds views c.args.kind c.args.self.now same c.in_ok-kept.kept c.in_ok-kept.ensures.ok.runs ∙ ap (λ s. input_count s) (sym c.requires.shape_is)

pub returns-clause-launched : goal.returns-clause-launched
returns-clause-launched g c =
    let views = views_of g.S.System g.E.Numbered g.S.Child.Child g.S.Feed.Job g.S.Drain.Job in
    let same = runs_flat (tree_for c.args.kind (tree_view c.args.self.now)) c.deref.ensures.value c.deref-2.ensures.value c.requires.list in
    let kept = c.in_ok-kept.ensures in
    record {
      asked = asked views c.args.kind c.args.self.now same c.in_ok-kept.kept kept.ok.runs;
      makes = (rw c.running_of.ensures (made views c.args.kind c.args.self.now same c.in_ok-kept.kept kept.ok.runs kept.ok.new (arc_value c.args.ready.core.shape) c.requires.shape_is kept.ok.workers), kept.reader);
      swept = kept.ok.swept;
    }

use Rattle.std.proofs.lemmas.Result.{IfOk-weaker}
use Rattle.duct.specs.TreeView.{tree_view}
use Rattle.examples.proofs.WholeStart.{whole_to}
use Rattle.examples.proofs.examples.calling.start_to.Goals as goal

pub returns : goal.returns
returns g c =
    IfOk-weaker c.start.result _ _
    (λ handle launched. whole_to g.H.Hook.allows g.S.End.Numbered.number_of (g.S.System.journal_view c.args.system.now) (g.S.System.journal_view c.start.new.sys) c.args.end (tree_view c.args.command.now) (tree_view c.in_ok-redirected.redirected) c.in_ok-redirected.ensures.tree c.requires.no_ends c.requires.earlier launched.asked)
    c.start.ensures.launched

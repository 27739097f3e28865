use Rattle.duct_run.proofs.Redirecting.{lets_go}
use Rattle.duct_run.proofs.streams.let_go.Goals as goal

pub returns-in-End-clause-goes : goal.returns-in-End-clause-goes
returns-in-End-clause-goes g c =
    let num = g.S.End.Numbered.number_of in
    rw c.in-End.is (lets_go g.H.Hook.allows num (num c.in-End.end) (g.S.System.journal_view c.args.sys.now) (g.S.System.journal_view c.close.new.self) c.close.ensures)

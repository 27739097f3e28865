use Rattle.duct_run.proofs.Common.{err_from_is_err_and, stream_of, missing_at, CloseSucceeds}
use Rattle.std.proofs.Common.{ap, length, subst, sym, ◌∙◌}
use Rattle.duct_run.proofs.Redirecting.{end_there, redirects_place, unredirected}
use Rattle.duct_run.proofs.streams.redirect.Goals as goal

pub returns-in_err-end-in-Place-clause-err : goal.returns-in_err-end-in-Place-clause-err
returns-in_err-end-in-Place-clause-err g c =
    let p = err_from_is_err_and c.from_residual.result c.from_residual.ensures.1 in
    let there = sym (ap (missing_at (length c.args.ends.now)) c.in-Place.is) ∙ c.requires.place in
    let at = end_there c.args.ends.now c.in-Place.place c.index-ends-place.result _ there c.index-ends-place.is in
    rw (p.1, p.2) (unredirected g.H.Hook.allows g.S.End.Numbered.number_of c.args.ends.now c.in-Place.place c.index-ends-place.result _ _ _ at c.in_err-end-in-Place.ensures.err)

pub returns-in_ok-end-in-Place-clause-ok : goal.returns-in_ok-end-in-Place-clause-ok
returns-in_ok-end-in-Place-clause-ok g c =
    let num = g.S.End.Numbered.number_of in
    let there = sym (ap (missing_at (length c.args.ends.now)) c.in-Place.is) ∙ c.requires.place in
    let at = end_there c.args.ends.now c.in-Place.place c.index-ends-place.result _ there c.index-ends-place.is in
    let old = stream_of num c.args.stream.now in
    let shut = subst (λ s. CloseSucceeds {E = g.row.S-End.Denot} {H = g.row.H.Denot} g.H.Hook.allows num (g.S.System.journal_view c.duplicate.new.self) (g.S.System.journal_view c.let_go-in-Place.new.sys) (stream_of num s)) c.replace-in-Place.ensures.value c.let_go-in-Place.ensures.goes in
    rw (c.in-Place.is, c.replace-in-Place.ensures.after) (redirects_place g.H.Hook.allows num c.args.ends.now c.in-Place.place (num c.in_ok-end-in-Place.end) c.index-ends-place.result old _ (g.S.System.journal_view c.duplicate.new.self) _ at c.in_ok-end-in-Place.ensures.ok shut)

use Rattle.duct_run.proofs.Common.{err_from_is_err_and, stream_of, HookMakes, streams_view}
use Rattle.std.proofs.Common.{sym, ◌∙◌}
use Rattle.duct_run.proofs.Changing.{alters_one, breaks_end, breaks_error, breaks_fault, breaks_input, breaks_output}
use Rattle.duct_run.proofs.Redirecting.{redirects_at}
use Rattle.duct_run.proofs.change.change.Goals as goal

pub returns-in-Err-clause-err : goal.returns-in-Err-clause-err
returns-in-Err-clause-err g c =
    breaks_fault g.H.Hook.allows g.S.End.Numbered.number_of c.args.hook.now c.args.ends.now c.args.spec.now c.change.new.spec (streams_view g.S.End.Numbered.number_of c.args.streams.now) g.H.Hook.refuses
    (g.S.System.journal_view c.args.sys.now) c.in-Err.fault c.in-Err.ensures.err

pub returns-in-Some-clause-err : goal.returns-in-Some-clause-err
returns-in-Some-clause-err g c =
    breaks_end g.H.Hook.allows g.S.End.Numbered.number_of c.args.hook.now c.args.ends.now c.args.spec.now c.change.new.spec (streams_view g.S.End.Numbered.number_of c.args.streams.now) g.H.Hook.refuses
    (g.S.System.journal_view c.args.sys.now) c.in-Some.place (record { allowed = c.in_default.ensures.ok; gives_nothing = c.in_default.ensures.given }) (sym c.in-Some.ensures)

pub returns-in_err-redirect-clause-err : goal.returns-in_err-redirect-clause-err
returns-in_err-redirect-clause-err g c =
    let p = err_from_is_err_and c.from_residual.result c.from_residual.ensures.1 in
    rw (p.1, p.2, c.in_err-redirect.ensures.kept) (breaks_input g.H.Hook.allows g.S.End.Numbered.number_of c.args.hook.now c.args.ends.now c.args.spec.now c.change.new.spec (streams_view g.S.End.Numbered.number_of c.args.streams.now) g.H.Hook.refuses _
    _ _ c.in_err-redirect.ensures.err)

pub returns-in_err-redirect-2-clause-err : goal.returns-in_err-redirect-2-clause-err
returns-in_err-redirect-2-clause-err g c =
    let p = err_from_is_err_and c.from_residual-in_err-redirect-2.result c.from_residual-in_err-redirect-2.ensures.1 in
    let num = g.S.End.Numbered.number_of in
    let made = c.change.new.spec in
    let i = redirects_at g.H.Hook.allows num c.args.ends.now _ made.input _ _ _ _ c.port.ensures c.in_ok-redirect.ensures.ok in
    rw (p.1, p.2, c.in_err-redirect-2.ensures.kept) (breaks_output g.H.Hook.allows num c.args.hook.now c.args.ends.now c.args.spec.now made (streams_view num c.args.streams.now) g.H.Hook.refuses _
    (stream_of num c.redirect.new.stream) _ _ _ i c.in_err-redirect-2.ensures.err)

pub returns-in_err-redirect-3-clause-err : goal.returns-in_err-redirect-3-clause-err
returns-in_err-redirect-3-clause-err g c =
    let p = err_from_is_err_and c.from_residual-in_err-redirect-3.result c.from_residual-in_err-redirect-3.ensures.1 in
    let num = g.S.End.Numbered.number_of in
    let made = c.change.new.spec in
    let i = redirects_at g.H.Hook.allows num c.args.ends.now _ made.input _ _ _ _ c.port.ensures c.in_ok-redirect.ensures.ok in
    let o = redirects_at g.H.Hook.allows num c.args.ends.now _ made.output _ _ _ _ c.port-2.ensures c.in_ok-redirect-2.ensures.ok in
    rw (p.1, p.2, c.in_err-redirect-3.ensures.kept) (breaks_error g.H.Hook.allows num c.args.hook.now c.args.ends.now c.args.spec.now made (streams_view num c.args.streams.now) g.H.Hook.refuses _
    (stream_of num c.redirect.new.stream) (stream_of num c.redirect-2.new.stream) _ _ _ _ i o c.in_err-redirect-3.ensures.err)

pub returns-clause-ok : goal.returns-clause-ok
returns-clause-ok g c =
    let num = g.S.End.Numbered.number_of in
    let made = c.change.new.spec in
    let i = redirects_at g.H.Hook.allows num c.args.ends.now _ made.input _ _ _ _ c.port.ensures c.in_ok-redirect.ensures.ok in
    let o = redirects_at g.H.Hook.allows num c.args.ends.now _ made.output _ _ _ _ c.port-2.ensures c.in_ok-redirect-2.ensures.ok in
    let e = redirects_at g.H.Hook.allows num c.args.ends.now _ made.error _ _ _ _ c.port-3.ensures c.in_ok-redirect-3.ensures.ok in
    let makes : HookMakes g.H.Hook.allows c.args.hook.now c.args.spec.now made = record { allowed = c.in_default.ensures.ok; gives_nothing = c.in_default.ensures.given } in
    rw c.find.ensures (alters_one g.H.Hook.allows num c.args.hook.now c.args.ends.now c.args.spec.now made (streams_view num c.args.streams.now)
    (stream_of num c.redirect.new.stream) (stream_of num c.redirect-2.new.stream) (stream_of num c.redirect-3.new.stream) _ _ _ _ makes (sym c.missing_place.ensures ∙ c.in_default-missing_place.is) i o e)

-- A run by a clock that stands still.
use Rattle.std.proofs.Common.{◌≡◌, ℕ, Err, Ok, subst}
use Rattle.std.specs.Duration.{as_nanos}
use Rattle.duct_tasks.proofs.Common.{err_from_is_err_and, views_of}
use Rattle.duct_tasks.specs.LinesRun.{IsLinesRun}
use Rattle.duct_tasks.specs.Streams.{Hands}
use Rattle.duct_tasks.specs.declared.late.Until.TheVariants as until
use Rattle.duct_tasks.proofs.attended.run_lines.Goals as goal

pub returns-in_err-captured : goal.returns-in_err-captured
returns-in_err-captured g c =
    let views = views_of g.S.System g.S.End.Numbered g.S.Child.Child g.S.Feed.Job g.S.Drain.Job in
    let p = err_from_is_err_and c.from_residual.result c.from_residual.ensures.1 in
    let grace = c.from_nanos-grace.result in
    rw (p.1, p.2) (record {
      run = (
        grace,
        subst (λ (n : ℕ). IsLinesRun views g.S.System.may_read g.S.Reader.Read.remaining
            (Hands g.F.FnMut) g.H.Hook.allows g.H.Hook.refuses c.args.expression.now grace
            (λ moment. as_nanos moment ≡ 0) n c.args.each.now c.run_lines_until.new.each
            (c.args.sys.now, c.args.pool.now) (Err c.in_err-captured.field-0.0)
            (c.run_lines_until.new.sys, c.run_lines_until.new.pool)) c.from_nanos-moment.ensures
            c.in_err-captured.ensures.run,
      );
    })

pub returns : goal.returns
returns g c =
    let views = views_of g.S.System g.S.End.Numbered g.S.Child.Child g.S.Feed.Job g.S.Drain.Job in
    let grace = c.from_nanos-grace.result in
    record {
      run = (
        grace,
        subst (λ (n : ℕ). IsLinesRun views g.S.System.may_read g.S.Reader.Read.remaining
            (Hands g.F.FnMut) g.H.Hook.allows g.H.Hook.refuses c.args.expression.now grace
            (λ moment. as_nanos moment ≡ 0) n c.args.each.now c.run_lines_until.new.each
            (c.args.sys.now, c.args.pool.now) (Ok (until.Done c.in-Done.captured))
            (c.run_lines_until.new.sys, c.run_lines_until.new.pool)) c.from_nanos-moment.ensures
            (rw c.in-Done.is at c.in_ok-captured.ensures.run),
      );
    }

use Rattle.std.proofs.Common.{Ok, of_calls, ap, ◌∙◌}
use Rattle.std.proofs.lemmas.List.{take_rest}
use Rattle.std.proofs.lemmas.Result.{err_from_is_err_and}
use Rattle.std.specs.Io.BufRead.{take_through}
use Rattle.duct_tasks.specs.Streams.{Hands, without_end}
use Rattle.duct_tasks.proofs.Lining.{hands_more, line_fits}
use Rattle.duct_tasks.proofs.lines.hand_on.Goals as goal

pub returns-in_err-each-clause-err : goal.returns-in_err-each-clause-err
returns-in_err-each-clause-err g c =
    let p = err_from_is_err_and c.from_residual.result c.from_residual.ensures.1 in
    rw (p.1, p.2) (
      c.loop-line.each,
      (c.args.side, without_end c.in-Some.line.now),
      record { shown = c.without_end.result; shows = c.without_end.ensures; called = c.in_err-each.ensures },
    )

pub loop-line-preserved : goal.loop-line-preserved
loop-line-preserved g c =
    let bytes = c.args.bytes.now in
    let told = c.loop-line.told in
    let line = c.in-Some.line.now in
    let is = c.in-Some.ensures.line ∙ ap (take_through 10) (take_rest bytes told) in
    let step : Hands g.F.FnMut (Ok tt) c.loop-line.each (c.args.side, without_end line) c.each.new.self =
    record { shown = c.without_end.result; shows = c.without_end.ensures; called = c.in_ok-each.ensures } in (
      search of_calls,
      line_fits bytes line told c.loop-line.invariant.1 is,
      hands_more (Hands g.F.FnMut (Ok tt)) c.args.side c.args.each.now c.loop-line.each c.each.new.self bytes line told
          c.loop-line.invariant.2 c.in-Some.ensures.whole is step,
    )

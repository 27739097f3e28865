-- From the environment to the capture workers, or to the reader.
use Rattle.std.proofs.Common.{◌≡◌, ap, ◌∙◌, rules, sym, None, is_some, Option}
use Rattle.duct_run.proofs.Common.{err_from_is_err_and, PerSide, with_capture_finished, reader_tail, tail_for}
use Rattle.duct_system.specs.declared.system.Side.TheVariants as side
use Rattle.duct_run.proofs.OutputRead.{two_spent}
use Rattle.duct_run.proofs.Reading.{reader_last, run_reads}
use Rattle.duct_run.proofs.RunContract.{finished_more, read_more, refused_before, run_fails, run_pipes, run_room, run_succeeds, tail_more}
use Rattle.duct_run.proofs.Turns.{some_mapped}
use Rattle.duct_run.proofs.start.run.Goals as goal

pub run_actions-requires : goal.run_actions-requires
run_actions-requires g c = record {
  outwards = c.requires.can.outwards;
  within = c.requires.can.within;
  begun = c.requires.begun;
  leads = c.requires.can.leads;
}

pub returns-in_err-run_actions-clause-err : goal.returns-in_err-run_actions-clause-err
returns-in_err-run_actions-clause-err g c =
    let p = err_from_is_err_and c.from_residual.result c.from_residual.ensures.1 in
    rw (p.1, p.2) (refused_before (tail_for c.args.kind) (tail_more c.args.kind) c.in_err-run_actions.ensures.err)

pub finish-requires-clause-room : goal.finish-requires-clause-room
finish-requires-clause-room g c = run_room c.in_ok-run_actions.ensures.ok c.requires.can.leads

pub returns-in_err-finish-in-Draining-clause-err : goal.returns-in_err-finish-in-Draining-clause-err
returns-in_err-finish-in-Draining-clause-err g c =
    let p = err_from_is_err_and c.from_residual-in_err-finish-in-Draining.result c.from_residual-in_err-finish-in-Draining.ensures.1 in
    let e = c.in_err-finish-in-Draining.ensures.err in
    rw (p.1, p.2, c.in-Draining.is) (refused_before (with_capture_finished side.Err) (finished_more side.Err) (run_fails c.in_ok-run_actions.ensures.ok side.Out e.0 e.1))

pub finish-requires-in-Draining-clause-room : goal.finish-requires-in-Draining-clause-room
finish-requires-in-Draining-clause-room g c =
    run_room (run_succeeds c.in_ok-run_actions.ensures.ok side.Out c.in_ok-finish-in-Draining.ensures.ok) c.requires.can.leads

pub returns-in_err-finish-in-Draining-2-clause-err : goal.returns-in_err-finish-in-Draining-2-clause-err
returns-in_err-finish-in-Draining-2-clause-err g c =
    let p = err_from_is_err_and c.from_residual-in_err-finish-in-Draining-2.result c.from_residual-in_err-finish-in-Draining-2.ensures.1 in
    let e = c.in_err-finish-in-Draining-2.ensures.err in
    rw (p.1, p.2, c.in-Draining.is) (run_fails (run_succeeds c.in_ok-run_actions.ensures.ok side.Out c.in_ok-finish-in-Draining.ensures.ok) side.Err e.0 e.1)

pub returns-in_ok-finish-in-Draining-2-clause-ok : goal.returns-in_ok-finish-in-Draining-2-clause-ok
returns-in_ok-finish-in-Draining-2-clause-ok g c =
    rw c.in-Draining.is (run_succeeds (run_succeeds c.in_ok-run_actions.ensures.ok side.Out c.in_ok-finish-in-Draining.ensures.ok) side.Err c.in_ok-finish-in-Draining-2.ensures.ok)

pub returns-in_ok-finish-in-Draining-2-clause-workers : goal.returns-in_ok-finish-in-Draining-2-clause-workers
returns-in_ok-finish-in-Draining-2-clause-workers g c =
    let once = run_succeeds c.in_ok-run_actions.ensures.ok side.Out c.in_ok-finish-in-Draining.ensures.ok in
    rw c.in-Draining.is (λ base bound plan leads. (
      ap (λ (ds : PerSide (Option _)). is_some ds.out) c.finish-in-Draining.ensures.drains ∙ c.in_ok-finish-in-Draining.ensures.worker ∙ sym (some_mapped _ c.run_actions.new.held.pipes.out) ∙ (run_pipes c.in_ok-run_actions.ensures.ok base bound plan leads).0,
      c.in_ok-finish-in-Draining-2.ensures.worker ∙ sym (some_mapped _ c.finish.new.held.pipes.err) ∙ (once.1 base bound plan leads).shaped.pipes side.Err,
    ))

pub finish-requires-in-Reading-clause-room : goal.finish-requires-in-Reading-clause-room
finish-requires-in-Reading-clause-room g c = run_room c.in_ok-run_actions.ensures.ok c.requires.can.leads

pub returns-in_err-finish-in-Reading-clause-err : goal.returns-in_err-finish-in-Reading-clause-err
returns-in_err-finish-in-Reading-clause-err g c =
    let p = err_from_is_err_and c.from_residual-in_err-finish-in-Reading.result c.from_residual-in_err-finish-in-Reading.ensures.1 in
    let e = c.in_err-finish-in-Reading.ensures.err in
    rw (p.1, p.2, c.in-Reading.is) (refused_before reader_tail read_more (run_fails c.in_ok-run_actions.ensures.ok side.Err e.0 e.1))

pub read_output-requires-clause-open : goal.read_output-requires-clause-open
read_output-requires-clause-open g c =
    let once = run_succeeds c.in_ok-run_actions.ensures.ok side.Err c.in_ok-finish-in-Reading.ensures.ok in
    let l = c.requires.can.leads in
    sym (some_mapped _ _) ∙ (once.1 l.0 l.1 l.2 l.3).shaped.pipes side.Out ∙ c.requires.can.opens c.in-Reading.is l.0 l.1 l.2 l.3

pub read_output-requires-clause-room : goal.read_output-requires-clause-room
read_output-requires-clause-room g c =
    let once = run_succeeds c.in_ok-run_actions.ensures.ok side.Err c.in_ok-finish-in-Reading.ensures.ok in
    let l = c.requires.can.leads in
    two_spent _ _ ((once.1 l.0 l.1 l.2 l.3).shaped.pipes side.Out ∙ c.requires.can.opens c.in-Reading.is l.0 l.1 l.2 l.3) _ (run_room once l)

pub returns-in_ok-finish-in-Reading-clause-ok : goal.returns-in_ok-finish-in-Reading-clause-ok
returns-in_ok-finish-in-Reading-clause-ok g c =
    let once = run_succeeds c.in_ok-run_actions.ensures.ok side.Err c.in_ok-finish-in-Reading.ensures.ok in
    let r = c.read_output.ensures.read in
    rw (c.in-Reading.is, c.read_output.ensures.output) (run_reads r.pipe_is r.closed r.made once)

pub returns-in_ok-finish-in-Reading-clause-reader : goal.returns-in_ok-finish-in-Reading-clause-reader
returns-in_ok-finish-in-Reading-clause-reader g c =
    let once = run_succeeds c.in_ok-run_actions.ensures.ok side.Err c.in_ok-finish-in-Reading.ensures.ok in
    let r = c.read_output.ensures.read in
    rw c.in-Reading.is (reader_last r.pipe_is r.closed r.made once g.S.System.may_read r.told c.requires.can.leads)

pub returns-in_ok-finish-in-Reading-clause-workers : goal.returns-in_ok-finish-in-Reading-clause-workers
returns-in_ok-finish-in-Reading-clause-workers g c =
    let out : c.finish-in-Reading.new.held.drains.out ≡ None = search rules in
    rw c.in-Reading.is (λ base bound plan leads. (
      ap (λ o. is_some o) out,
      c.in_ok-finish-in-Reading.ensures.worker ∙ sym (some_mapped _ c.run_actions.new.held.pipes.err) ∙ (run_pipes c.in_ok-run_actions.ensures.ok base bound plan leads).1,
    ))

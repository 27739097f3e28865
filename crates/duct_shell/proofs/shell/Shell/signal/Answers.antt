use Rattle.std.proofs.Common.{◌≡◌, Err, Ok, Some, refl, rules, subst, to_z, of_z, w32}
use Rattle.std.proofs.lemmas.Result.{err_from_is_err_and}
use Rattle.duct_system.specs.declared.system.Order.TheVariants.{Signal}
use Rattle.duct_run.proofs.Seeing.{views_of}
use Rattle.duct_handle.specs.Obeyed.{IsObeyed}
use Rattle.duct_shell.specs.Jobs.{find}
use Rattle.duct_shell.proofs.shell.Shell.signal.Goals as goal

pub returns-in_err-send_signal : goal.returns-in_err-send_signal
returns-in_err-send_signal g c =
    let views = views_of g.S.System g.S.End.Numbered g.S.Child.Child g.S.Feed.Job g.S.Drain.Job in
    let found : find c.args.job c.args.self.now.jobs ≡ Some c.in_ok-handle.handle.now = search rules in
    let same : to_z w32 (of_z w32 c.args.signal) ≡ c.args.signal = search rules in
    let p = err_from_is_err_and c.from_residual-in_err-send_signal.result c.from_residual-in_err-send_signal.ensures.1 in
    rw (found, p.1, p.2) (
      subst (λ signal. IsObeyed views (Signal signal) c.in_ok-handle.handle.now.numbers.children
          (Err c.in_err-send_signal.field-0.0)) same c.in_err-send_signal.ensures,
      refl,
    )

pub returns : goal.returns
returns g c =
    let views = views_of g.S.System g.S.End.Numbered g.S.Child.Child g.S.Feed.Job g.S.Drain.Job in
    let found : find c.args.job c.args.self.now.jobs ≡ Some c.in_ok-handle.handle.now = search rules in
    let same : to_z w32 (of_z w32 c.args.signal) ≡ c.args.signal = search rules in
    rw found (subst (λ signal. IsObeyed views (Signal signal)
    c.in_ok-handle.handle.now.numbers.children (Ok c.in_ok-send_signal.field-0)) same
    c.in_ok-send_signal.ensures)

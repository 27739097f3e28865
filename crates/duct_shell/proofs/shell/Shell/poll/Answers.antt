use Rattle.std.proofs.Common.{◌≡◌, None, Ok, Some, ap, rules}
use Rattle.duct_shell.specs.Jobs.{find}
use Rattle.duct_shell.proofs.shell.Shell.poll.Goals as goal

pub returns-clause-pending : goal.returns-clause-pending
returns-clause-pending g c = λ is.
    let found : find c.args.job c.args.self.now.jobs ≡ Some c.in_ok-handle.handle.now = search rules in
    let none : c.in_ok-try_wait.field-0 ≡ None = cc in
    rw found (c.in_ok-try_wait.ensures.pending (ap Ok none))

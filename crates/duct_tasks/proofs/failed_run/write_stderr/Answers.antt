use Rattle.std.proofs.Common.{None}
use Rattle.std.proofs.lemmas.Str.{IsUtf8-from_is_utf8}
use Rattle.std.specs.Str.{is_utf8}
use Rattle.duct_status.proofs.Printing.{displays_if}
use Rattle.duct_tasks.specs.FailedText.{behind_mark}
use Rattle.duct_tasks.proofs.failed_run.write_stderr.Goals as goal

pub returns-in-Err : goal.returns-in-Err
returns-in-Err g c =
    let tail = c.args.tail.now in
    displays_if _ _ _ _ (is_utf8 tail) None (behind_mark tail)
    (λ is. absurd (c.in-Err.ensures.cases.0 (IsUtf8-from_is_utf8 tail is))) tt

use Rattle.std.proofs.Common.{[], ap, map, refl, subst, ◌∙◌, List, ℕ, Ok}
use Rattle.std.proofs.Output.{displays_on_IsOk_append}
use Rattle.std.specs.Fmt.{DisplaysOnOk}
use Rattle.duct_status.specs.Form.{printed}
use Rattle.duct_tasks.specs.FailedText.{failed_form, last_lines, stderr_text, without_newline}
use Rattle.duct_tasks.specs.Statuses.{command_view}
use Rattle.duct_tasks.proofs.failed_run.FailedRunDisplay.fmt.Goals as goal

pub returns-clause-writes : goal.returns-clause-writes
returns-clause-writes g c =
    let took = g.W.Write.write_str_gives in
    let run = c.args.self.now in
    let tail = without_newline (last_lines run.most run.output.stderr.items) in
    let is = c.without_newline.ensures ∙ ap without_newline c.last_lines.ensures in
    let wrote = subst (λ (bytes : List ℕ). DisplaysOnOk took c.write_failed.new.f c.write_stderr.result (stderr_text bytes) c.write_stderr.new.f) is
    c.write_stderr.ensures in
    displays_on_IsOk_append took c.args.f.now c.write_failed.new.f c.write_stderr.new.f (Ok tt) c.write_stderr.result
    (printed (failed_form [] (map command_view run.commands.items))) (stderr_text tail) (λ ok. refl) (rw (← c.deref.ensures.value) c.in_ok-write_failed.ensures) wrote

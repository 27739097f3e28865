-- A request prints the promised text.
use Rattle.duct_system.specs.EntryView.{entry_view}
use Rattle.duct_status.specs.Form.{form_text, is_form_printable, printed}
use Rattle.duct_status.proofs.Printing.{form_prints, displays_if}
use Rattle.duct_base.specs.EntryForm.{request_form}
use Rattle.duct_base.proofs.text.RequestTextDisplay.fmt.Goals as goal

pub returns-clause-writes : goal.returns-clause-writes
returns-clause-writes g c =
    let form = request_form (entry_view c.args.self.now.0.now) in
    displays_if _ _ _ _ (is_form_printable form) (printed form) (form_text form) (form_prints form) c.write_request.ensures

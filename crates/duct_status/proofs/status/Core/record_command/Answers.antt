use Rattle.std.proofs.Common.{ap, ◌∙◌, List}
use Rattle.duct_status.specs.declared.status.Word.{Word}
use Rattle.duct_status.specs.Fits.{latest_of}
use Rattle.duct_status.specs.EventView.{from_command}
use Rattle.duct_status.proofs.Stays.{answer_after, failure_after}
use Rattle.duct_status.proofs.status.Core.record_command.Goals as goal

pub invariant_of-self : goal.invariant_of-self
invariant_of-self c =
    let s = c.args.self.now in
    let event = from_command c.args.at c.args.word in
    let now = latest_of c.record_at.new.commands.items s.inputs.items s.drains in
    let same = ap (λ (xs : List Word). latest_of xs s.inputs.items s.drains) c.record_at.ensures.items in
    record {
      commands_fit = c.record_at.ensures.len ∙ s.commands_fit;
      inputs_fit = s.inputs_fit;
      answer_fits = answer_after s now event same;
      failure_fits = failure_after s now event same;
    }

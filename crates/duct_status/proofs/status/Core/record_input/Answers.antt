use Rattle.std.proofs.Common.{ap, ◌∙◌, List}
use Rattle.duct_system.specs.declared.system.Said.{Said}
use Rattle.duct_status.specs.Fits.{latest_of}
use Rattle.duct_status.specs.EventView.{from_input}
use Rattle.duct_status.proofs.Stays.{answer_after, failure_after}
use Rattle.duct_status.proofs.status.Core.record_input.Goals as goal

pub invariant_of-self : goal.invariant_of-self
invariant_of-self c =
    let s = c.args.self.now in
    let event = from_input c.args.at c.args.said in
    let now = latest_of s.commands.items c.keep_at.new.inputs.items s.drains in
    let same = ap (λ (xs : List (Said (Unit {0}))). latest_of s.commands.items xs s.drains) c.keep_at.ensures.items in
    record {
      commands_fit = s.commands_fit;
      inputs_fit = c.keep_at.ensures.len ∙ s.inputs_fit;
      answer_fits = answer_after s now event same;
      failure_fits = failure_after s now event same;
    }

use Rattle.duct_status.specs.Fits.{latest_of}
use Rattle.duct_status.specs.EventView.{from_drain, bytes_said}
use Rattle.duct_status.specs.PerSide.{with_side}
use Rattle.duct_status.proofs.Stays.{answer_after, failure_after, drain_after}
use Rattle.duct_status.proofs.status.Core.record_drain.Goals as goal

pub invariant_of-self : goal.invariant_of-self
invariant_of-self c =
    let s = c.args.self.now in
    let event = from_drain c.args.side (bytes_said c.args.said) in
    let now = latest_of s.commands.items s.inputs.items (with_side s.drains c.args.side c.keep_bytes.new.drain) in
    let same = drain_after s c.args.side (bytes_said c.args.said) _ c.keep_bytes.new.drain c.of_mut.ensures.value c.keep_bytes.ensures.bytes in
    record {
      commands_fit = s.commands_fit;
      inputs_fit = s.inputs_fit;
      answer_fits = answer_after s now event same;
      failure_fits = failure_after s now event same;
    }

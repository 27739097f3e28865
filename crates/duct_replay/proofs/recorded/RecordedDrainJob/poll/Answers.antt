use Rattle.std.proofs.Common.{ℕ, ap, sym, ◌∙◌, Global, Vec}
use Rattle.duct_system.specs.Job.{JobView}
use Rattle.duct_replay.specs.RecordingView.{Shared}
use Rattle.duct_replay.proofs.Noting.{by_worker}
use Rattle.duct_replay.proofs.recorded.RecordedDrainJob.poll.Goals as goal

pub note_output-requires : goal.note_output-requires
note_output-requires g c =
    let polled = c.poll-said.ensures in
    let number = c.number.ensures ∙ sym (g.met.S.Drain.Job.has_number c.poll-said.new.self) ∙ ap (λ (v : JobView Shared). v.number) polled.after_is in
    let bytes = ap (λ (bytes : Vec ℕ Global). bytes.items) c.in-Ok.ensures in
    by_worker _ _ _ _ _ _ c.in-Done-Some.bytes c.in-Ok.shared number c.in-Done-Some.is-0 bytes polled.told

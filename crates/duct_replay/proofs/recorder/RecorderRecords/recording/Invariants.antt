-- Each ending and each output that was added so far may have been noted.
use Rattle.std.proofs.Common.{◌≡◌, All}
use Rattle.duct_replay.specs.RecordingView.{bytes_of, MayEnd, MayGive}
use Rattle.duct_replay.proofs.recorder.RecorderRecords.recording.Given as goal

abbrev pub invariant-loop-note : goal.invariant-loop-note
invariant-loop-note g l = record {
  rest : l.recording ≡ record l.initial.recording { endings = l.recording.endings };
  told : All (λ pair. ∥ MayEnd g.S.Child.Child.may_answer pair.0 pair.1 ∥₁) l.recording.endings;
}

abbrev pub invariant-loop-noted : goal.invariant-loop-noted
invariant-loop-noted g l = record {
  rest : l.recording ≡ record l.initial.recording { outputs = l.recording.outputs };
  told : All (λ pair. ∥ MayGive g.S.System.may_read g.S.Reader.Read.remaining g.S.Drain.Job.may_say pair.0 (bytes_of pair.1) ∥₁) l.recording.outputs;
}

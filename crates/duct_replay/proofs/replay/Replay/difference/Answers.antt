use Rattle.std.proofs.Common.{subst}
use Rattle.duct_replay.specs.Replays.{Retraces, ReplayView}
use Rattle.duct_replay.proofs.replay.Replay.difference.Goals as goal

pub returns-clause-retraces : goal.returns-clause-retraces
returns-clause-retraces c =
    subst (λ (v : ReplayView). ∥ Retraces v.recording.entries v.journal.entries v.journal.added c.self.inside.difference ∥₁)
    c.self.view_is c.self.inside.retraces

use Rattle.duct_replay.proofs.Following.{prepared, same_followed}
use Rattle.duct_replay.proofs.replay.Replay.prepare.Goals as goal

pub invariant_of-self-inside : goal.invariant_of-self-inside
invariant_of-self-inside c =
    let same = prepared c.prepare.result _ _ _ c.prepare.ensures.ok c.prepare.ensures.unchanged in
    (same_followed _ _ _ _ _ _ c.self.inside.retraces same.0 same.1, tt)

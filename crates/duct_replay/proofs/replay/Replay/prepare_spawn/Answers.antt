use Rattle.duct_replay.proofs.Following.{prepared_spawn, same_followed}
use Rattle.duct_replay.proofs.replay.Replay.prepare_spawn.Goals as goal

pub invariant_of-self-inside : goal.invariant_of-self-inside
invariant_of-self-inside c =
    let same = prepared_spawn c.prepare_spawn.result _ _ _ _ c.prepare_spawn.ensures.ok c.prepare_spawn.ensures.err in
    (same_followed _ _ _ _ _ _ c.self.inside.retraces same.0 same.1, tt)

use Rattle.std.proofs.Common.{ap}
use Rattle.duct_system.specs.Journal.{JournalView}
use Rattle.duct_replay.proofs.Following.{same_followed}
use Rattle.duct_replay.proofs.replay.Replay.count.Goals as goal

pub invariant_of-self-inside : goal.invariant_of-self-inside
invariant_of-self-inside c =
    let entries = ap (λ (j : JournalView). j.entries) c.count_to.ensures in
    let added = ap (λ (j : JournalView). j.added) c.count_to.ensures in
    (same_followed _ _ _ _ _ _ c.self.inside.retraces entries added, tt)

pub invariant_of-self-inside-in-Err : goal.invariant_of-self-inside-in-Err
invariant_of-self-inside-in-Err c =
    let entries = ap (λ (j : JournalView). j.entries) c.give_back.ensures in
    let added = ap (λ (j : JournalView). j.added) c.give_back.ensures in
    (same_followed _ _ _ _ _ _ c.self.inside.retraces entries added, tt)

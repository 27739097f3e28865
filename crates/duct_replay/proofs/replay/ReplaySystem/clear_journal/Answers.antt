use Rattle.std.proofs.Common.{ap}
use Rattle.duct_system.specs.Journal.{JournalView}
use Rattle.duct_replay.proofs.Following.{none_followed}
use Rattle.duct_replay.proofs.replay.ReplaySystem.clear_journal.Goals as goal

pub invariant_of-self-inside : goal.invariant_of-self-inside
invariant_of-self-inside c =
    let none = ap (λ (j : JournalView). j.entries) c.clear.ensures in
    let added = ap (λ (j : JournalView). j.added) c.clear.ensures in
    (none_followed _ _ _ _ _ _ c.self.inside.retraces none added, tt)

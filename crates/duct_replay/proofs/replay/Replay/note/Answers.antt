use Rattle.std.proofs.Common.{ℕ, ap, sym, subst, ◌∙◌}
use Rattle.duct_system.specs.EntryView.{entry_view}
use Rattle.duct_system.specs.Journal.{JournalView}
use Rattle.duct_replay.specs.Replays.{IsToldRight, ReplayView, difference_after, next_of}
use Rattle.duct_replay.proofs.Following.{one_followed}
use Rattle.duct_replay.proofs.replay.Replay.note.Goals as goal

pub invariant_of-self-inside : goal.invariant_of-self-inside
invariant_of-self-inside c =
    let told = subst (λ (v : ReplayView). IsToldRight c.args.agrees (entry_view c.args.entry) (next_of v)) (sym c.self.view_is) c.requires.agrees in
    let entries = ap (λ (j : JournalView). j.entries) c.add.ensures in
    let added = ap (λ (j : JournalView). j.added) c.add.ensures in
    let after = c.difference_after-self-inside.ensures ∙ ap (λ (place : ℕ). difference_after c.args.agrees place c.self.inside.difference) c.added-place.ensures in
    (one_followed _ _ _ _ _ _ _ c.args.agrees (entry_view c.args.entry) c.self.inside.retraces told entries added after, tt)

-- The handles in front, and those behind, which were given, are all handles.
use Rattle.std.proofs.Common.{◌≡◌, ◌++◌, vec_len}
use Rattle.duct_run.proofs.Seeing.{views_of}
use Rattle.duct_shell.specs.Jobs.{AreAllGiven, Kept}
use Rattle.duct_shell.proofs.jobs.Jobs.give_up.Given as goal

abbrev pub invariant-loop-handle : goal.invariant-loop-handle
invariant-loop-handle g l =
    let views = views_of g.S.System g.S.End.Numbered g.S.Child.Child g.S.Feed.Job g.S.Drain.Job in
    (given : Kept) × (l.fn.self.kept ≡ l.kept.items ++ given)
    × AreAllGiven views given l.fn.pool l.pool

abbrev pub decreases-loop-handle : goal.decreases-loop-handle
decreases-loop-handle g l = vec_len l.kept

use Rattle.std.proofs.Common.{◌≡◌, ◌∙◌, ◌++◌, ◌∷◌, [], ap, sym, refl, append_assoc}
use Rattle.std.proofs.lemmas.List.{append-nil}
use Rattle.duct_base.specs.Pool.{PoolView}
use Rattle.duct_system.specs.SystemViews.{SystemViews}
use Rattle.duct_run.proofs.Seeing.{views_of}
use Rattle.duct_running.specs.Stored.{Bytes}
use Rattle.duct_handle.specs.Finished.{AreGiven}
use Rattle.duct_handle.specs.HandleView.{HandleView}
use Rattle.duct_shell.specs.Jobs.{AreAllGiven, JobsView, Kept}
use Rattle.duct_shell.specs.declared.jobs.Job.{Job}
use Rattle.duct_shell.proofs.jobs.Jobs.give_up.Goals as goal

-- one more handle is given, the last one in front
given_more : {S E C F D : Type 0} (views : SystemViews S E C F D (Unit {0}) Bytes)
    (all kept left : Kept) (pair : Job × HandleView) (before mid after : PoolView C)
    → ((given : Kept) × (all ≡ kept ++ given) × AreAllGiven views given before mid)
    → kept ≡ left ++ pair ∷ [] → AreGiven views pair.1.numbers (Unit {0}) mid after
    → (given : Kept) × (all ≡ left ++ given) × AreAllGiven views given before after
given_more views all kept left pair before mid after so_far is gives = (
  pair ∷ so_far.0,
  so_far.1 ∙ ap (λ (xs : Kept). xs ++ so_far.0) is ∙ append_assoc left (pair ∷ []) so_far.0,
  (mid, so_far.2, gives),
)

pub loop-handle-init : goal.loop-handle-init
loop-handle-init g c =
    ([], ap (λ (view : JobsView). view.kept) (sym {A = JobsView} c.self.view_is) ∙ sym {A = Kept} (append-nil c.self.inside.kept.items), refl)

pub loop-handle-preserved : goal.loop-handle-preserved
loop-handle-preserved g c =
    let views = views_of g.S.System g.S.End.Numbered g.S.Child.Child g.S.Feed.Job g.S.Drain.Job in
    given_more views c.args.self.kept c.loop-handle.kept.items c.pop.new.self.items _ c.args.pool.now c.loop-handle.pool c.give_up.new.pool
    c.loop-handle.invariant c.in-Some.ensures.items c.give_up.ensures

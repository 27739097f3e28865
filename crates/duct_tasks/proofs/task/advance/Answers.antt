use Rattle.std.proofs.Common.{◌≡◌, ◌∙◌, ap, subst, sym, Bool, if◌then◌else◌, length, ℕ}
use Rattle.duct_tasks.proofs.Common.{Ended, Running, RunningView, Task, counted, numbers_of, views_of}
use Rattle.duct_tasks.proofs.Counting.{no_less}
use Rattle.duct_tasks.proofs.Jobs.{ends_on, same_on, then_on}
use Rattle.duct_tasks.specs.Tasks.{IsDue, IsDueTask, has_failed, has_failed_at, left_by}
use Rattle.duct_tasks.specs.declared.job.Job.{Job}
use Rattle.duct_tasks.proofs.task.advance.Goals as goal

pub returns-in_default-clause-goes : goal.returns-in_default-clause-goes
returns-in_default-clause-goes g c =
    let views = views_of g.S.System g.S.End.Numbered g.S.Child.Child g.S.Feed.Job g.S.Drain.Job in
    λ stopped due. same_on views g.S.System.may_read g.S.Reader.Read.remaining g.H.Hook.allows
    g.H.Hook.refuses g.C.Clock.may_show c.args.tasks.now stopped c.args.task.now
    c.args.sys.now c.args.pool.now.given due

pub returns-in-Running-replace-clause-fails : goal.returns-in-Running-replace-clause-fails
returns-in-Running-replace-clause-fails g c =
    rw (c.in-Running.is, c.replace.ensures.after)
    (no_less (has_failed_at c.in-Running.job.step) (has_failed c.finish-finished.result)
    (λ is. c.finish-finished.ensures.fails (c.turn-came.ensures.fails is)))

pub returns-in-Running-replace-clause-goes : goal.returns-in-Running-replace-clause-goes
returns-in-Running-replace-clause-goes g c =
    let views = views_of g.S.System g.S.End.Numbered g.S.Child.Child g.S.Feed.Job g.S.Drain.Job in
    let finished = c.finish-finished.result in
    let count : c.spend.new.pool.given ≡ counted c.turn-came.new.pool.given (left_by finished) =
    let same : c.finish-finished.new.self ≡ c.in-Running-replace.job = cc in
    c.spend.ensures.count
    ∙ ap (λ (b : Bool). counted c.turn-came.new.pool.given
    (if b then length (numbers_of views c.into_running.result).children else 0))
    c.has_failed-failed.ensures
    ∙ ap (λ (n : ℕ). counted c.turn-came.new.pool.given (if has_failed finished then n else 0))
    (ap (λ (r : RunningView _ _ _). length (numbers_of views r).children)
    (c.into_running.ensures ∙ ap (λ (j : Job _ _). j.running) (sym same)
    ∙ c.finish-finished.ensures.running) ∙ sym c.finish-finished.ensures.count) in
    λ stopped due.
    let is_due = subst (λ (t : Task _ _). IsDueTask (IsDue (g.C.Clock.may_show
    c.args.tasks.now.clock.now) c.args.tasks.now.limit stopped) t) c.in-Running.is due in
    rw (c.in-Running.is, c.replace.ensures.after) (then_on views g.S.System.may_read g.S.Reader.Read.remaining g.H.Hook.allows
    g.H.Hook.refuses g.C.Clock.may_show c.args.tasks.now stopped
    (Running c.in-Running.job) (Running c.turn-came.new.self) (Ended finished) c.args.sys.now
    c.turn-came.new.sys c.turn-came.new.sys c.args.pool.now.given c.turn-came.new.pool.given
    c.spend.new.pool.given (c.turn-came.ensures.goes stopped is_due)
    (ends_on views g.S.System.may_read g.S.Reader.Read.remaining g.H.Hook.allows
    g.H.Hook.refuses g.C.Clock.may_show c.args.tasks.now stopped c.turn-came.new.self finished
    c.turn-came.new.sys c.turn-came.new.pool.given c.spend.new.pool.given
    (c.finish-finished.ensures.came c.args.tasks.now.grace c.args.tasks.now.limit stopped) count))

use Rattle.std.proofs.Common.{arith, ap, ◌∙◌, ◌≡◌, ◌≤◌, ◌⊎◌, true, false, [], length, subst}
use Rattle.duct_tasks.proofs.Common.{Goes, GoesOn, Tasks, views_of}
use Rattle.duct_tasks.specs.declared.many.AtFailure.TheVariants.{Stop}
use Rattle.duct_tasks.proofs.Moving.{ran_all}
use Rattle.duct_tasks.proofs.many.run_all.Goals as goal

pub into_ends-requires-clause-fits : goal.into_ends-requires-clause-fits
into_ends-requires-clause-fits g c =
    let tasks = c.work.ensures.tasks ∙ c.in_ok-crew.ensures.tasks in
    omega (
      arith,
      c.work.new.crew.within,
      ap (λ (t : Tasks _ _ _). length t.all.now) tasks,
      c.in_ok-room.ensures.capacity,
    )

pub returns-clause-ran : goal.returns-clause-ran
returns-clause-ran g c =
    let views = views_of g.S.System g.S.End.Numbered g.S.Child.Child g.S.Feed.Job g.S.Drain.Job in
    let tasks = c.work.ensures.tasks ∙ c.in_ok-crew.ensures.tasks in
    let crew = c.work.new.crew in
    let items = crew.started.items in
    let made = rw (c.in_ok-crew.ensures.none, c.in_ok-crew.ensures.unasked) at c.work.ensures.goes in
    let goes = subst (λ (t : Tasks _ _ _). Goes views g.S.System.may_read g.S.Reader.Read.remaining
    g.H.Hook.allows g.H.Hook.refuses g.C.Clock.may_show t false crew.stopped [] items
    c.args.sys.now c.work.new.sys c.args.pool.now.given c.work.new.pool.given)
    c.in_ok-crew.ensures.tasks made in
    let over = subst (λ (t : Tasks _ _ _). (length t.all.now ≤ length items) ⊎
    (GoesOn t.at_failure crew.failed → ⊥)) tasks c.work.ensures.over in
    let within = subst (λ (t : Tasks _ _ _). length items ≤ length t.all.now) tasks crew.within in
    let stops = subst (λ (t : Tasks _ _ _). crew.stopped ≡ true → (crew.failed ≡ true) ×
    (t.at_failure ≡ Stop)) tasks crew.stops in
    ran_all c.args.tasks c.into_ends.result.items items crew.stopped crew.failed c.args.sys.now
    c.work.new.sys c.args.pool.now c.work.new.pool goes c.into_ends.ensures crew.fails over within
    stops

use Rattle.std.proofs.Common.{◌≡◌, Err, Some, arith, inr, refl, subst, sym, ◌∙◌}
use Rattle.duct_tasks.proofs.Common.{RunningView, views_of}
use Rattle.duct_tasks.proofs.Serving.{left_at, may_start, rests_at, started_at, started_none, stands_after}
use Rattle.duct_tasks.proofs.Signalled.{no_orders}
use Rattle.duct_tasks.specs.Services.{IsAt, after_start, known, rests_if}
use Rattle.duct_tasks.specs.Services.Deed.{leaves, refused, starts}
use Rattle.duct_tasks.specs.Services.Phase.{over, runs}
use Rattle.duct_tasks.specs.declared.keeper.Why.TheVariants.{GaveUp, Stopped}
use Rattle.duct_tasks.specs.declared.service.Service.{Service}
use Rattle.duct_tasks.proofs.service.Service+Running+S.start.Goals as goal

pub returns-then-restarts-self : goal.returns-then-restarts-self
returns-then-restarts-self g c =
    let views = views_of g.S.System g.S.End.Numbered g.S.Child.Child g.S.Feed.Job g.S.Drain.Job in
    let restarts = c.args.services.now.restarts in
    let shows = g.C.Clock.may_show c.args.services.now.clock.now in
    let old = c.args.self.now in
    λ from is.
    let to = record from { phase = over GaveUp } in (
      to,
      subst (λ (s : Service (RunningView _ _ _)). IsAt views restarts shows s to)
          (sym c.move_to.ensures) (left_at views restarts shows old from old.last from.last GaveUp is
          is.last),
      inr (
        leaves GaveUp,
        (
          (rests_at views restarts shows old from c.args.from c.requires is).0,
          omega (arith, c.if-restarts-self.true, is.row),
          refl,
          refl,
        ),
      ),
    )

pub returns-then-stops : goal.returns-then-stops
returns-then-stops g c =
    let views = views_of g.S.System g.S.End.Numbered g.S.Child.Child g.S.Feed.Job g.S.Drain.Job in
    let restarts = c.args.services.now.restarts in
    let shows = g.C.Clock.may_show c.args.services.now.clock.now in
    let old = c.args.self.now in
    λ from is.
    let to = record from { phase = over Stopped } in (
      to,
      subst (λ (s : Service (RunningView _ _ _)). IsAt views restarts shows s to)
          (sym c.move_to-then-stops.ensures) (left_at views restarts shows old from old.last from.last Stopped is
          is.last),
      inr (
        leaves Stopped,
        (
          (rests_at views restarts shows old from c.args.from c.requires is).0,
          c.if-stops.true,
          refl,
          refl,
        ),
      ),
    )

pub returns-in-Ok : goal.returns-in-Ok
returns-in-Ok g c =
    let views = views_of g.S.System g.S.End.Numbered g.S.Child.Child g.S.Feed.Job g.S.Drain.Job in
    let restarts = c.args.services.now.restarts in
    let shows = g.C.Clock.may_show c.args.services.now.clock.now in
    let old = c.args.self.now in
    let running = c.in-Ok.running in
    let launched = c.in-Ok.ensures.launched in
    λ from is.
    let may = may_start views restarts shows c.args.stops old from c.args.from c.now-began.result
    c.requires is c.if-restarts-self.false c.if-stops.false c.now-began.ensures
    (omega (arith, c.if-as_nanos.false, c.as_nanos.ensures, c.as_nanos-2.ensures)) in
    let count = c.saturating_add-self.ensures in
    let to = after_start from from.last (runs (known views running)) in (
      to,
      subst (λ (s : Service (RunningView _ _ _)). IsAt views restarts shows s to)
          (sym c.move_to-in-Ok.ensures) (started_at views restarts shows old _ from from.last
          (runs (known views running)) is count refl c.longer-self.ensures is.last
          (refl, no_orders views running.children launched.makes.unasked, c.now-began.ensures)),
      inr (starts running, (may, launched, refl)),
    )

pub returns-in-Err : goal.returns-in-Err
returns-in-Err g c =
    let views = views_of g.S.System g.S.End.Numbered g.S.Child.Child g.S.Feed.Job g.S.Drain.Job in
    let restarts = c.args.services.now.restarts in
    let shows = g.C.Clock.may_show c.args.services.now.clock.now in
    let old = c.args.self.now in
    let none = c.has_none-none.result in
    let says = c.has_none-none.ensures in
    let before = c.given-given.ensures in
    let after = c.given.ensures in
    let last = Some (Err c.in-Err.error) in
    λ from is.
    let may = may_start views restarts shows c.args.stops old from c.args.from c.now-began.result
    c.requires is c.if-restarts-self.false c.if-stops.false c.now-began.ensures
    (omega (arith, c.if-as_nanos.false, c.as_nanos.ensures, c.as_nanos-2.ensures)) in
    let count = c.saturating_add-self.ensures in
    let to = after_start from last (rests_if none) in (
      to,
      subst (λ (s : Service (RunningView _ _ _)). IsAt views restarts shows s to)
          (sym c.move_to-in-Err.ensures) (started_at views restarts shows old _ from last
          (rests_if none) is count refl c.longer-self.ensures refl
          (stands_after views restarts shows none c.after.result c.longer-self.result c.now.result
          to refl c.now.ensures c.after.ensures.rests c.after.ensures.over)),
      inr (
        refused c.in-Err.error none,
        (
          may,
          c.in-Err.ensures.refused,
          started_none views g.H.Hook.allows g.H.Hook.refuses c.args.like.now c.args.sys.now
              c.launch.new.sys c.args.pool.now c.launch.new.pool c.in-Err.error none
              c.in-Err.ensures.refused
              (λ it. (
                sym after ∙ (says.yes it).0 ∙ before,
                omega (arith, (says.yes it).1, before),
              ))
              (λ it same. sym before ∙ says.no it (after ∙ same ∙ sym before)),
          refl,
        ),
      ),
    )

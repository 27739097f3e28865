use Rattle.std.proofs.Common.{None, Option, Some, ap, false, inl, inr, pos, refl, subst, sym}
use Rattle.std.specs.declared.time.Duration.{Duration}
use Rattle.duct_tasks.proofs.Common.{RunningView, Signal, views_of}
use Rattle.duct_tasks.proofs.Jobs.{signalled_by}
use Rattle.duct_tasks.proofs.Serving.{goes_to, halts_of, known_ordered, left_at, live_polled, runs_at, unordered_polled}
use Rattle.duct_tasks.specs.Services.{IsAt, IsLiveAt, Known, after_end, known}
use Rattle.duct_tasks.specs.Services.Deed.{asks, ends, halts}
use Rattle.duct_tasks.specs.Services.Phase.{asked, over}
use Rattle.duct_tasks.specs.declared.keeper.Why.TheVariants.{Stopped}
use Rattle.duct_tasks.specs.declared.late.Late.{Late}
use Rattle.duct_tasks.specs.declared.service.Service.{Service}
use Rattle.duct_tasks.specs.declared.service.State.{State}
use Rattle.duct_tasks.proofs.service.Service+Running+S.turn.Goals as goal

pub returns-in-Rests : goal.returns-in-Rests
returns-in-Rests g c =
    let views = views_of g.S.System g.S.End.Numbered g.S.Child.Child g.S.Feed.Job g.S.Drain.Job in
    let restarts = c.args.services.now.restarts in
    let shows = g.C.Clock.may_show c.args.services.now.clock.now in
    let old = c.args.self.now in
    λ from is. c.start.ensures from
    (subst (λ (s : State (RunningView _ _ _)). IsAt views restarts shows (record old { state = s }) from)
    c.in-Rests.is is)

pub returns-then-not-has_lapsed : goal.returns-then-not-has_lapsed
returns-then-not-has_lapsed g c =
    let views = views_of g.S.System g.S.End.Numbered g.S.Child.Child g.S.Feed.Job g.S.Drain.Job in
    let restarts = c.args.services.now.restarts in
    let shows = g.C.Clock.may_show c.args.services.now.clock.now in
    let old = c.args.self.now in
    let live = c.in-Runs.live in
    let polled = c.ended-ended.new.running in
    let later = record live { running = polled } in
    let poll = c.ended-ended.ensures in
    λ from is.
    let at = runs_at views restarts shows old from live (Some c.in-Some.last) c.in-Runs.is c.in-Some.is
    is in (
      from,
      goes_to views restarts shows old from later from.phase (Some c.in-Some.last) is c.in-Some.is
          (live_polled views restarts shows live polled c.in-Some.last from.phase poll.stays
          poll.polls at),
      inl (refl, refl),
    )

pub returns-in-Some : goal.returns-in-Some
returns-in-Some g c =
    let views = views_of g.S.System g.S.End.Numbered g.S.Child.Child g.S.Feed.Job g.S.Drain.Job in
    let restarts = c.args.services.now.restarts in
    let shows = g.C.Clock.may_show c.args.services.now.clock.now in
    let old = c.args.self.now in
    let live = c.in-Runs.live in
    let polled = c.ended-ended.new.running in
    let later = record live { running = polled } in
    let poll = c.ended-ended.ensures in
    let late : Late = record { ended = c.ended-ended.result; killed = c.order_all.result } in
    let killed = c.order_all.new in
    let given = c.order_all.ensures.ordered in
    λ from is.
    let at = runs_at views restarts shows old from live (Some c.in-Some.last) c.in-Runs.is c.in-Some.is
    is in
    let halted = halts_of views restarts shows g.H.Hook.allows g.H.Hook.refuses live polled
    killed.running late c.in-Some.last given.0 (c.args.sys.now, c.args.pool.now)
    (killed.sys, killed.pool) from.phase poll.stays poll.polls poll.stores
    (c.has_lapsed.ensures c.if-not-has_lapsed.false) given.1 c.order_all.ensures.alike at in
    let to = record from { last = late.ended; phase = over Stopped } in (
      to,
      subst (λ (s : Service (RunningView _ _ _)). IsAt views restarts shows s to)
          (sym c.end.ensures.stands)
          (left_at views restarts shows old from late.ended late.ended Stopped is refl),
      inr (
        halts late killed.running halted.0,
        (
          halted.1,
          (
            killed.pool,
            halted.2,
            c.end.ensures.spends (record live { running = killed.running }) refl,
          ),
          refl,
        ),
      ),
    )

pub returns-in-Some-ended : goal.returns-in-Some-ended
returns-in-Some-ended g c =
    let views = views_of g.S.System g.S.End.Numbered g.S.Child.Child g.S.Feed.Job g.S.Drain.Job in
    let restarts = c.args.services.now.restarts in
    let shows = g.C.Clock.may_show c.args.services.now.clock.now in
    let old = c.args.self.now in
    let live = c.in-Runs.live in
    let polled = c.ended-ended.new.running in
    let later = record live { running = polled } in
    let poll = c.in-Some-ended.ensures in
    λ from is.
    let at = unordered_polled views restarts shows old from live polled c.in-Runs.is
    c.in_default.is poll.stays poll.polls is in
    let mid = goes_to views restarts shows old from later from.phase None is c.in_default.is at in
    let ended = c.end_by_itself.ensures.stands from at.2 mid in (
      after_end from c.in-Some-ended.end ended.0,
      ended.2,
      inr (
        ends c.in-Some-ended.end polled ended.0,
        (
          at.0,
          at.1,
          poll.stores,
          ended.1,
          refl,
          c.end_by_itself.ensures.spends later refl,
          refl,
        ),
      ),
    )

pub returns-then-stops : goal.returns-then-stops
returns-then-stops g c =
    let views = views_of g.S.System g.S.End.Numbered g.S.Child.Child g.S.Feed.Job g.S.Drain.Job in
    let restarts = c.args.services.now.restarts in
    let shows = g.C.Clock.may_show c.args.services.now.clock.now in
    let old = c.args.self.now in
    let live = c.in-Runs.live in
    let polled = c.ended-ended.new.running in
    let later = record live { running = polled } in
    let poll = c.ended-ended.ensures in
    let ordered = c.order_all-then-stops.new in
    let order = c.order_all-then-stops.ensures in
    let given = order.ordered in
    let sent = given.1.sent in
    λ from is.
    let at = unordered_polled views restarts shows old from live polled c.in-Runs.is
    c.in_default.is poll.stays poll.polls is in
    let signalled = signalled_by views g.H.Hook.allows g.H.Hook.refuses given.0
    (c.args.sys.now, c.args.pool.now) (ordered.sys, ordered.pool) polled ordered.running _ given.1
    order.alike at.1 in
    let phase = asked (known views polled) given.0 in (
      record from { phase = phase },
      goes_to views restarts shows old from
          (record live { running = ordered.running; asked = Some c.saturating_add.result }) phase
          (Some c.saturating_add.result) is refl (
            given.0,
            ap (λ (k : Known). asked k given.0)
                (sym (known_ordered views (Signal (pos 15)) polled ordered.running sent.givens
                sent.each order.alike)),
            signalled.0,
            signalled.1,
            (c.now.result, c.now.ensures, c.saturating_add.ensures),
          ),
      inr (
        asks (known views polled) given.0,
        (c.if-stops.true, at.0, given.1.signals, refl),
      ),
    )

pub returns-else-stops : goal.returns-else-stops
returns-else-stops g c =
    let views = views_of g.S.System g.S.End.Numbered g.S.Child.Child g.S.Feed.Job g.S.Drain.Job in
    let restarts = c.args.services.now.restarts in
    let shows = g.C.Clock.may_show c.args.services.now.clock.now in
    let old = c.args.self.now in
    let live = c.in-Runs.live in
    let polled = c.ended-ended.new.running in
    let later = record live { running = polled } in
    let poll = c.ended-ended.ensures in
    λ from is.
    let at = unordered_polled views restarts shows old from live polled c.in-Runs.is
    c.in_default.is poll.stays poll.polls is in (
      from,
      goes_to views restarts shows old from later from.phase None is c.in_default.is at,
      inl (refl, refl),
    )

use Rattle.std.proofs.Common.{Bool, ◌∙◌, refl, subst}
use Rattle.duct_tasks.proofs.Common.{views_of}
use Rattle.duct_tasks.proofs.Keeping.{goes_lifted, goes_none, goes_then}
use Rattle.duct_tasks.proofs.keeper.work.Goals as goal

pub loop-init : goal.loop-init
loop-init g c =
    let views = views_of g.S.System g.S.End.Numbered g.S.Child.Child g.S.Feed.Job g.S.Drain.Job in
    record {
      can = tt;
      ends = tt;
      said = λ no. absurd (cc);
      count = refl;
      goes = goes_none views g.H.Hook.allows g.H.Hook.refuses g.C.Clock.may_show c.args.services.now
          _ (c.args.sys.now, c.args.pool.now) c.args.kept.now.items;
    }

pub loop-preserved : goal.loop-preserved
loop-preserved g c =
    let views = views_of g.S.System g.S.End.Numbered g.S.Child.Child g.S.Feed.Job g.S.Drain.Job in
    let services = c.args.services.now in
    let i = c.loop.invariant in
    let new = c.turn_all.new in
    record {
      can = tt;
      ends = tt;
      said = λ is. subst (λ (b : Bool). g.F.Fn.post c.args.stop.now tt b) is
          c.is_to_stop-stops.ensures;
      count = c.turn_all.ensures.count ∙ i.count;
      goes = goes_then views g.H.Hook.allows g.H.Hook.refuses g.C.Clock.may_show services _
          (c.args.sys.now, c.args.pool.now) (c.loop.sys, c.loop.pool) (new.sys, new.pool)
          c.args.kept.now.items c.loop.kept.items new.kept.items i.goes
          (goes_lifted views g.H.Hook.allows g.H.Hook.refuses g.C.Clock.may_show services _
          (λ (it : Bool). g.F.Fn.post c.args.stop.now tt it)
          (λ it is. subst (λ (b : Bool). g.F.Fn.post c.args.stop.now tt b) is c.is_to_stop-stops.ensures)
          (c.loop.sys, c.loop.pool) (new.sys, new.pool) c.loop.kept.items new.kept.items
          c.turn_all.ensures.goes);
    }

pub returns-then-are_over-clause-goes : goal.returns-then-are_over-clause-goes
returns-then-are_over-clause-goes g c =
    let views = views_of g.S.System g.S.End.Numbered g.S.Child.Child g.S.Feed.Job g.S.Drain.Job in
    let services = c.args.services.now in
    let i = c.loop.invariant in
    let new = c.turn_all.new in
    goes_then views g.H.Hook.allows g.H.Hook.refuses g.C.Clock.may_show services _
    (c.args.sys.now, c.args.pool.now) (c.loop.sys, c.loop.pool) (new.sys, new.pool)
    c.args.kept.now.items c.loop.kept.items new.kept.items i.goes
    (goes_lifted views g.H.Hook.allows g.H.Hook.refuses g.C.Clock.may_show services _
    (λ (it : Bool). g.F.Fn.post c.args.stop.now tt it)
    (λ it is. subst (λ (b : Bool). g.F.Fn.post c.args.stop.now tt b) is c.is_to_stop-stops.ensures)
    (c.loop.sys, c.loop.pool) (new.sys, new.pool) c.loop.kept.items new.kept.items
    c.turn_all.ensures.goes)

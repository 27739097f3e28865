use Rattle.std.proofs.Common.{Bool, List, ◌≡◌, ◌∙◌, arith, get_or, refl, set, subst}
use Rattle.duct_tasks.proofs.Common.{Expression, length-set, views_of}
use Rattle.duct_tasks.proofs.Keeping.{goes_none, goes_one, goes_then}
use Rattle.duct_tasks.proofs.keeper.turn_all.Goals as goal

pub loop-at-init : goal.loop-at-init
loop-at-init g c =
    let views = views_of g.S.System g.S.End.Numbered g.S.Child.Child g.S.Feed.Job g.S.Drain.Job in
    record {
      all = refl;
      count = omega (arith, c.len-at-end.ensures, c.args.kept.now.ok.0);
      same = refl;
      goes = goes_none views g.H.Hook.allows g.H.Hook.refuses g.C.Clock.may_show c.args.services.now
          _ (c.args.sys.now, c.args.pool.now) c.args.kept.now.items;
    }

pub loop-at-preserved : goal.loop-at-preserved
loop-at-preserved g c =
    let views = views_of g.S.System g.S.End.Numbered g.S.Child.Child g.S.Feed.Job g.S.Drain.Job in
    let i = c.loop-at.invariant in
    let items = c.loop-at.kept.items in
    let at = c.loop-at.at in
    let new = c.turn-turned.new in
    let count = i.same ∙ c.requires.count in
    let root = c.index-all-at.result in
    let is_root = subst (λ (all : List (Expression _ _)). root ≡ get_or all at root) i.all
    c.index-all-at.is in
    let says = λ (said : Bool). c.args.stops ≡ said in
    let length = length-set items at new.self in
    record {
      all = i.all;
      count = length ∙ i.count;
      same = length ∙ i.same;
      goes = goes_then views g.H.Hook.allows g.H.Hook.refuses g.C.Clock.may_show c.args.services.now says
          (c.args.sys.now, c.args.pool.now) (c.loop-at.sys, c.loop-at.pool) (new.sys, new.pool)
          c.args.kept.now.items items (set items at new.self) i.goes
          (goes_one views g.H.Hook.allows g.H.Hook.refuses g.C.Clock.may_show c.args.services.now says at
          (c.loop-at.sys, c.loop-at.pool) (new.sys, new.pool) items c.index_mut.result.now new.self
          root c.index_mut.ensures.value (omega (arith, i.count, c.loop-at-test.true)) is_root count
          c.turn-turned.ensures);
    }

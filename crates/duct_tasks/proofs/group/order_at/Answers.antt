use Rattle.std.specs.Prelude.{unwrap_or}
use Rattle.std.proofs.Common.{◌≡◌, ◌<◌, ◌∙◌, arith, false, length, map, sym, true}
use Rattle.duct_tasks.proofs.Common.{length-map, views_of}
use Rattle.duct_tasks.proofs.Signalled.{given_at, given_none}
use Rattle.duct_tasks.proofs.group.order_at.Goals as goal

pub returns-then-unwrap_or-clause-given : goal.returns-then-unwrap_or-clause-given
returns-then-unwrap_or-clause-given g c =
    let views = views_of g.S.System g.S.End.Numbered g.S.Child.Child g.S.Feed.Job g.S.Drain.Job in
    let r = c.args.running.now in
    let led = c.try_group-led.result in
    let few = length-map r.children views.child in
    let some : c.args.at < length (map views.child r.children) =
    omega (arith, few, c.requires.within) in
    let sent : unwrap_or led false ≡ true = sym c.unwrap_or.ensures ∙ c.if-unwrap_or.true in (
      led,
      c.try_group-led.ensures,
      given_none views.may_obey c.args.order led c.args.at (map views.child r.children) sent some,
    )

pub returns-clause-given : goal.returns-clause-given
returns-clause-given g c =
    let views = views_of g.S.System g.S.End.Numbered g.S.Child.Child g.S.Feed.Job g.S.Drain.Job in
    let r = c.args.running.now in
    let led = c.try_group-led.result in
    let unsent : unwrap_or led false ≡ false = sym c.unwrap_or.ensures ∙ c.if-unwrap_or.false in (
      led,
      c.try_group-led.ensures,
      given_at views.may_obey c.args.order led c.order_at.result c.args.at
          (map views.child r.children) (map views.child c.order_at.new.self.children) unsent
          c.order_at.ensures.ordered,
    )

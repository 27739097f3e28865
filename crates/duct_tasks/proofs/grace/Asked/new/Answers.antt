use Rattle.std.specs.Prelude.{map, pos}
use Rattle.std.proofs.Common.{subst}
use Rattle.duct_tasks.proofs.Common.{Signal, views_of, AreSignalled}
use Rattle.duct_tasks.proofs.Signalled.{all_sent, processes_after}
use Rattle.duct_tasks.specs.Groups.{Tries}
use Rattle.duct_tasks.proofs.grace.Asked.new.Goals as goal

pub returns-clause-processes : goal.returns-clause-processes
returns-clause-processes g c =
    let sent = c.order_all.ensures.ordered.1.sent in
    processes_after (views_of g.S.System g.S.End.Numbered g.S.Child.Child g.S.Feed.Job
    g.S.Drain.Job) (Signal (pos 15)) c.args.running c.order_all.new.running sent.givens sent.each

pub returns-clause-signalled : goal.returns-clause-signalled
returns-clause-signalled g c =
    let views = views_of g.S.System g.S.End.Numbered g.S.Child.Child g.S.Feed.Job g.S.Drain.Job in
    let ordered = c.order_all.ensures.ordered in
    let sent = ordered.1.sent in (
      ordered.0,
      ordered.1.signals,
      subst (λ (tries : Tries). AreSignalled views tries c.order_all.new.running) sent.tries_are
          (all_sent views.may_obey (map views.child c.args.running.children) sent.givens
          (map views.child c.order_all.new.running.children) c.requires sent.each),
    )

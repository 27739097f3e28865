use Rattle.std.proofs.Common.{◌≡◌, ◌∙◌, ap, map, refl, rules, subst, sym, inr, to_z, of_z, w32}
use Rattle.duct_handle.proofs.Common.{∥∥₁_map, Signal, views_of, NumbersView, IsObeyed, IsOrderedOnce}
use Rattle.duct_handle.proofs.Obeying.{order_obeyed}
use Rattle.duct_handle.proofs.orders.ordered.Goals as goal

pub returns-in-Kill-clause-obeyed : goal.returns-in-Kill-clause-obeyed
returns-in-Kill-clause-obeyed g c =
    let views = views_of g.S.System g.S.End.Numbered g.S.Child.Child g.S.Feed.Job g.S.Drain.Job in
    let view = g.S.Child.Child.child_view in
    let numbers = ap (λ (n : NumbersView). n.children) (c.if-not-is_of.ensures.0 refl).1 in
    subst (λ order. IsObeyed views order c.args.numbers.now.children.items c.kill.result) (sym c.in-Kill.is)
    (order_obeyed views _ (map view c.args.running.now.children) (map view c.kill.new.self.children) c.args.numbers.now.children.items c.kill.result c.kill.ensures.ordered
    (∥∥₁_map c.answers_allowed.ensures (λ t. t.children_told)) numbers)

pub returns-in-Signal-clause-obeyed : goal.returns-in-Signal-clause-obeyed
returns-in-Signal-clause-obeyed g c =
    let views = views_of g.S.System g.S.End.Numbered g.S.Child.Child g.S.Feed.Job g.S.Drain.Job in
    let view = g.S.Child.Child.child_view in
    let numbers = ap (λ (n : NumbersView). n.children) (c.if-not-is_of.ensures.0 refl).1 in
    let same : to_z w32 (of_z w32 c.in-Signal.signal) ≡ c.in-Signal.signal = search rules in
    subst (λ order. IsObeyed views order c.args.numbers.now.children.items c.signal.result) (ap (λ s. Signal s) same ∙ sym c.in-Signal.is)
    (order_obeyed views _ (map view c.args.running.now.children) (map view c.signal.new.self.children) c.args.numbers.now.children.items c.signal.result c.signal.ensures.ordered
    (∥∥₁_map c.answers_allowed.ensures (λ t. t.children_told)) numbers)

pub returns-in-Kill-clause-orders : goal.returns-in-Kill-clause-orders
returns-in-Kill-clause-orders g c =
    let views = views_of g.S.System g.S.End.Numbered g.S.Child.Child g.S.Feed.Job g.S.Drain.Job in
    subst (λ order. IsOrderedOnce views order c.args.running.now c.kill.result c.kill.new.self) (sym c.in-Kill.is)
    (inr (record {
      shape = c.kill.ensures.shape;
      children = c.kill.ensures.ordered;
      feeds = c.kill.ensures.feeds;
      output = c.kill.ensures.output;
      error = c.kill.ensures.error;
    }))

pub returns-in-Signal-clause-orders : goal.returns-in-Signal-clause-orders
returns-in-Signal-clause-orders g c =
    let views = views_of g.S.System g.S.End.Numbered g.S.Child.Child g.S.Feed.Job g.S.Drain.Job in
    let same : to_z w32 (of_z w32 c.in-Signal.signal) ≡ c.in-Signal.signal = search rules in
    subst (λ order. IsOrderedOnce views order c.args.running.now c.signal.result c.signal.new.self) (ap (λ s. Signal s) same ∙ sym c.in-Signal.is)
    (inr (record {
      shape = c.signal.ensures.shape;
      children = c.signal.ensures.ordered;
      feeds = c.signal.ensures.feeds;
      output = c.signal.ensures.output;
      error = c.signal.ensures.error;
    }))

use Rattle.std.proofs.Common.{◌≡◌, rules, subst, to_z, of_z, w32}
use Rattle.duct_system.specs.Child.{OrdersChild}
use Rattle.duct_system.specs.declared.system.Order.TheVariants.{Signal}
use Rattle.duct_host.specs.ChildView.{child_view}
use Rattle.duct_host.specs.Signals.{MayObey}
use Rattle.duct_host.proofs.child.ChildChild.signal.Goals as goal

pub returns : goal.returns
returns g c =
    let same : to_z w32 (of_z w32 c.args.signal) ≡ c.args.signal = search rules in
    subst (λ signal. OrdersChild (λ _ order noted answer. MayObey order noted answer) (Signal signal) (child_view c.args.self.now) c.order.result (child_view c.order.new.self)) same c.order.ensures

use Rattle.std.proofs.Common.{rules}
use Rattle.duct_system.specs.Child.{OrdersChild}
use Rattle.duct_system.specs.declared.system.Order.TheVariants.{Signal}
use Rattle.duct_script.specs.Told.{Obeys, child_view}
use Rattle.duct_script.proofs.Orders.{orders_child}
use Rattle.duct_script.proofs.child.ScriptChildChild.signal.Goals as goal

pub returns-clause-ordered : goal.returns-clause-ordered
returns-clause-ordered c =
    let noted : OrdersChild (Obeys c.args.self.now.script) (Signal c.args.signal) (child_view c.args.self.now) c.order.result (child_view c.order.new.self) = search rules in
    orders_child c.args.self.now.script _ _ _ _ noted

pub returns-clause-obeyed : goal.returns-clause-obeyed
returns-clause-obeyed c = search rules

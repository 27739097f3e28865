use Rattle.duct_script.proofs.Orders.{orders_child}
use Rattle.duct_script.proofs.child.ScriptChildChild.kill.Goals as goal

pub returns-clause-ordered : goal.returns-clause-ordered
returns-clause-ordered c = orders_child c.args.self.now.script _ _ _ _ c.order.ensures

pub returns-clause-obeyed : goal.returns-clause-obeyed
returns-clause-obeyed c = c.order.ensures

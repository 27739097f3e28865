use Rattle.duct_host.proofs.child.ChildChild.kill.Goals as goal

pub returns : goal.returns
returns g c = c.order.ensures

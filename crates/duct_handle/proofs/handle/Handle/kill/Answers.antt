use Rattle.duct_handle.proofs.handle.Handle.kill.Goals as goal

pub returns : goal.returns
returns g c = c.order.ensures

use Rattle.duct_handle.proofs.handle.Handle.wait.Goals as goal

pub returns : goal.returns
returns g c = c.wait_as.ensures.told

use Rattle.duct_handle.proofs.handle.Handle.try_wait.Goals as goal

pub returns-clause-told : goal.returns-clause-told
returns-clause-told g c = c.try_wait_as.ensures.told

pub returns-clause-pending : goal.returns-clause-pending
returns-clause-pending g c = c.try_wait_as.ensures.pending

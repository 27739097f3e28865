use Rattle.duct_system.specs.Trace.{segment}
use Rattle.duct_tasks.proofs.Explaining.{explains}
use Rattle.duct_tasks.proofs.request.failed_starts.Goals as goal

pub returns : goal.returns
returns g c = λ number_of tree plan old new error refused.
    explains g.H.Hook.allows g.H.Hook.refuses number_of plan (segment old.entries new.entries) error refused.cause refused.last_fault

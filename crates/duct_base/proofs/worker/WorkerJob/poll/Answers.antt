use Rattle.std.proofs.Common.{rules}
use Rattle.duct_base.proofs.worker.WorkerJob.poll.Goals as goal

pub invariant_of-self-2 : goal.invariant_of-self-2
invariant_of-self-2 g c = search rules

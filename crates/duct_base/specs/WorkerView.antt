-- What contracts see of a worker.
use Rattle.duct_system.specs.Job.{JobView}
use Rattle.duct_base.specs.declared.shared.Shared.{Ghosts}
use Rattle.duct_base.specs.declared.worker.Worker.{Worker}

-- what contracts see of a worker: it stores the first result that it returned
abbrev pub worker_view : {T : Type 0} {shared : Ghosts T} → Worker T shared → JobView T
worker_view worker = record {
  number = worker.number;
  polls = worker.polls;
  kept = worker.kept.value;
}

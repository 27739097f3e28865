use Rattle.duct_system.specs.Trace.{trace}
use Rattle.duct_start.specs.Sources.{IsGivenFrom, Pairwise}
use Rattle.duct_laws.proofs.Alike.{same_kinds}
use Rattle.duct_laws.proofs.starts.Goals as goal

pub returns : goal.returns
returns g c = λ number_of plan added asks long.
    same_kinds (λ io wanted. Pairwise (IsGivenFrom added) io wanted) g.H.Hook.allows number_of added 0 plan.items (trace added) asks long

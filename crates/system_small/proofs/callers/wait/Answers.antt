use Rattle.system_small.proofs.Results.{waited}
use Rattle.system_small.proofs.callers.wait.Goals as goal

pub returns : goal.returns
returns g c = waited _ _ _ c.wait.ensures

use Rattle.system_small.proofs.Results.{unnoted}
use Rattle.system_small.proofs.callers.kill.Goals as goal

pub returns : goal.returns
returns g c = unnoted c.args.handle.now.numbers.children c.kill.result c.kill.ensures

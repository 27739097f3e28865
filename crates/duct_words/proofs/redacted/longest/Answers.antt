use Rattle.std.proofs.Common.{arith, map}
use Rattle.duct_words.proofs.Hiding.{longest-within}
use Rattle.duct_words.proofs.redacted.longest.Goals as goal

pub returns-clause-within : goal.returns-clause-within
returns-clause-within g c =
    omega (arith, c.loop-secret.invariant, longest-within (map g.T.AsStr.text c.args.secrets.now) c.args.bytes.now)

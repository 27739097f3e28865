-- The longest secret so far, or among the remaining ones, is the longest of all.
use Rattle.std.proofs.Common.{◌≡◌, drop, map, max}
use Rattle.duct_words.specs.Hidden.{longest}
use Rattle.duct_words.proofs.redacted.longest.Given as goal

abbrev pub invariant-loop-secret : goal.invariant-loop-secret
invariant-loop-secret g l =
    max l.found (longest (map g.T.AsStr.text (drop l.secret-index l.secrets)) l.bytes)
    ≡ longest (map g.T.AsStr.text l.fn.secrets) l.fn.bytes

-- The bytes begin one of the remaining secrets where they begin one of all.
use Rattle.std.proofs.Common.{◌≡◌, drop, map}
use Rattle.duct_words.specs.Hidden.{is_begun}
use Rattle.duct_words.proofs.redacted.is_begun.Given as goal

abbrev pub invariant-loop-secret : goal.invariant-loop-secret
invariant-loop-secret g l =
    is_begun (map g.T.AsStr.text (drop l.secret-index l.secrets)) l.bytes
    ≡ is_begun (map g.T.AsStr.text l.secrets) l.bytes

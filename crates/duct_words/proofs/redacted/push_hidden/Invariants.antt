-- What is shown so far, followed by the rest with the secrets hidden, is what all bytes show.
use Rattle.std.proofs.Common.{◌≡◌, ℕ, List, [], ◌++◌, length, map, true}
use Rattle.duct_words.specs.Hidden.{hidden}
use Rattle.duct_words.proofs.redacted.push_hidden.Given as goal

abbrev pub invariant-loop-first : goal.invariant-loop-first
invariant-loop-first g l =
    (others : List ℕ) → (l.at_end ≡ true → others ≡ [])
    → l.fn.shown.items ++ hidden (map g.T.AsStr.text l.fn.secrets) (l.fn.bytes ++ others)
    ≡ l.shown.items ++ hidden (map g.T.AsStr.text l.fn.secrets) (l.rest ++ others)

abbrev pub decreases-loop-first : goal.decreases-loop-first
decreases-loop-first g l = length l.rest

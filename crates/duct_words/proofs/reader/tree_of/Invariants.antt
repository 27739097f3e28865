-- What is read of the remaining tokens, after what was read so far, is what is read of all.
use Rattle.std.proofs.Common.{◌≡◌, drop, map}
use Rattle.duct_words.specs.Line.{reader_view, start, tree_of}
use Rattle.duct_words.specs.Split.{token_view}
use Rattle.duct_words.proofs.reader.tree_of.Given as goal

abbrev pub invariant-loop-token : goal.invariant-loop-token
invariant-loop-token g l =
    tree_of (reader_view l.reader) (map token_view (drop l.token-index l.tokens))
    ≡ tree_of start (map token_view l.fn.tokens)

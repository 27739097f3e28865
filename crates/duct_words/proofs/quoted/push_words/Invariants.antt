-- The text so far, followed by that of the remaining words, is the text of all.
use Rattle.std.proofs.Common.{◌≡◌, ◌++◌, drop, map, string_bytes}
use Rattle.duct_words.specs.Quote.{further, quote_of}
use Rattle.duct_words.proofs.quoted.push_words.Given as goal

abbrev pub invariant-loop-other : goal.invariant-loop-other
invariant-loop-other g l =
    string_bytes l.text ++ further (map g.W.AsStr.text (drop l.other-index l.others))
    ≡ string_bytes l.fn.text ++ quote_of (map g.W.AsStr.text l.fn.words)

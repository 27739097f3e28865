-- The words so far, followed by the rest, are all of them.
use Rattle.std.proofs.Common.{◌≡◌, ◌++◌, drop, map, string_bytes}
use Rattle.duct_system.specs.SpecView.{texts_of}
use Rattle.duct_words.proofs.place.joined.Given as goal

abbrev pub invariant-loop-word : goal.invariant-loop-word
invariant-loop-word g l =
    map string_bytes l.all.items ++ map g.W.AsStr.text (drop l.word-index l.words)
    ≡ texts_of l.fn.before ++ map g.W.AsStr.text l.fn.words

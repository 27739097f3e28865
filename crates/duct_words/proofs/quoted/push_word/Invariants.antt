-- The text so far, followed by the rest of the word in quotes, is the text of the whole word.
use Rattle.std.proofs.Common.{◌≡◌, ◌++◌, ◌∷◌, string_bytes}
use Rattle.duct_words.specs.Quote.{between}
use Rattle.duct_words.proofs.quoted.push_word.Given as goal

abbrev pub invariant-loop-c : goal.invariant-loop-c
invariant-loop-c l =
    string_bytes l.text ++ between l.c-iterator.rest.now ≡ string_bytes l.fn.text ++ 39 ∷ between l.fn.word

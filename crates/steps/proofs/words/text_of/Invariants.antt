-- The text so far, followed by that of the remaining tokens, is the text of all.
use Rattle.std.proofs.Common.{◌≡◌, ◌++◌, drop, map, string_bytes}
use Rattle.duct_words.specs.Split.{token_view}
use Rattle.steps.specs.Words.{tokens_text}
use Rattle.steps.proofs.words.text_of.Given as goal

abbrev pub invariant-loop-token : goal.invariant-loop-token
invariant-loop-token l =
    string_bytes l.text ++ tokens_text l.fn.words (map token_view (drop l.token-index l.tokens))
    ≡ l.fn.words ++ tokens_text l.fn.words (map token_view l.fn.tokens)

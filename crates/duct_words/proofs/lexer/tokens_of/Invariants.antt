-- What is read of the rest, after what was read so far, is what is read of all.
use Rattle.std.proofs.Common.{◌≡◌}
use Rattle.duct_words.specs.Split.{lexer_view, read, start_at}
use Rattle.duct_words.proofs.lexer.tokens_of.Given as goal

abbrev pub invariant-loop-place : goal.invariant-loop-place
invariant-loop-place l =
    read l.place-iterator.at (lexer_view l.lexer) l.place-iterator.rest.now
    ≡ read 0 (start_at l.fn.at_command) l.fn.text

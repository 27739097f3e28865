-- A character between quotes is written as its bytes are.
use Rattle.std.proofs.Common.{arith}
use Rattle.duct_words.proofs.Characters.{added, between_one}
use Rattle.duct_words.specs.Quote.{between}
use Rattle.duct_words.proofs.quoted.push_word.Goals as goal

pub loop-c-preserved : goal.loop-c-preserved
loop-c-preserved c =
    added between 39 (omega arith) between_one _ _ _ _ _ c.in-Some.c c.if-c-eq39.false c.in-Some.ensures.steps.0 c.in_ok-push-2.ensures.bytes c.loop-c.invariant

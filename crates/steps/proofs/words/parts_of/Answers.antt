use Rattle.std.proofs.Common.{◌≡◌, ◌<◌, ℕ, List, None, Some, MatchOption, arith, length, lit<, nat_eq, option_map, Option}
use Rattle.std.proofs.lemmas.Bool.Decides.{nat_tests}
use Rattle.std.proofs.lemmas.Str.Pattern.{split_once_first}
use Rattle.std.specs.Borrow.{Bor}
use Rattle.std.specs.List.{after_first, before_first, position_or_len}
use Rattle.steps.specs.Words.{parts_of}
use Rattle.steps.proofs.words.parts_of.Goals as goal

parted : (text : List ℕ) (r : Option (Bor (List ℕ) × Bor (List ℕ)))
    → MatchOption r (position_or_len (λ b. nat_eq b 58) text ≡ length text)
    (λ parts. (position_or_len (λ b. nat_eq b 58) text < length text)
    × (parts.0.now ≡ before_first (λ b. nat_eq b 58) text)
    × (parts.1.now ≡ after_first (λ b. nat_eq b 58) text))
    → option_map (λ parts. (parts.0.now, parts.1.now)) r ≡ parts_of text
parted text None lacks = grind (arith, nat_tests, lacks)
parted text (Some parts) has = grind (arith, nat_tests, has.0, has.1, has.2)

pub returns : goal.returns
returns c =
    parted c.args.line.now c.split_once.result
    (split_once_first 58 c.args.line.now c.split_once.result c.split_once.ensures.cases (lit< tt))

-- The arguments of a command, read one after the other.
use Rattle.std.proofs.Common.{ℕ, List, ◌++◌, Ok, Result}
use Rattle.duct_program.specs.Line.{CommandView, RedirectionView}
use Rattle.duct_program.specs.Parsed.{◌>>=◌}
use Rattle.duct_program.specs.declared.usage.Usage.{Usage}

-- what was read before, followed by what is still read
abbrev pub behind : List (List ℕ) → List RedirectionView → Result CommandView Usage
    → Result CommandView Usage
behind words redirections read =
    read >>= λ command. Ok (record { words = words ++ command.words; redirections = redirections ++ command.redirections })

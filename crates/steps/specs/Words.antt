-- What a line of a file of steps says, and words before those of its commands.
use Rattle.std.specs.Prelude.{ℕ, ◌+◌, List, [], ◌∷◌, ◌++◌, Bool, ◌==◌, ◌||◌, None, Some, codes, if◌then◌else◌, drop, length, option_and_then, take, Option, Result}
use Rattle.std.specs.List.{list_any, position_or_len}
use Rattle.std.specs.Result.{result_map_both}
use Rattle.duct_system.specs.declared.spec.Stream.TheVariants.{In, Out, Err}
use Rattle.duct_start.specs.TreeView.{TreeView}
use Rattle.duct_program.specs.Parsed.{◌>>=◌}
use Rattle.duct_words.specs.Line.{line_of}
use Rattle.duct_words.specs.Quote.{quote_of}
use Rattle.duct_words.specs.Split.{TokenView, pipe, redirect, split_of, word}
use Rattle.duct_words.specs.declared.error.LineError.{LineError}
use Rattle.duct_words.specs.declared.error.LineError.TheVariants as errors

-- a name and a command line
abbrev pub Parts : Type 0
Parts = List ℕ × List ℕ

-- the texts before the first colon and after it, if there is one
abbrev pub parts_of : List ℕ → Option Parts
parts_of line =
    let place = position_or_len (λ b. b == 58) line in
    if place == length line then None else Some (take place line, drop (place + 1) line)

-- whether a text has a slash
abbrev pub has_slash : List ℕ → Bool
has_slash text = list_any (λ b. b == 47) text

-- these texts, where the first is a name: it is not empty, and has no slash
abbrev pub if_named : Parts → Option Parts
if_named parts = if length parts.0 == 0 || has_slash parts.0 then None else Some parts

-- the name and the command line of a line, if it has them
abbrev pub named_of : List ℕ → Option Parts
named_of line = option_and_then if_named (parts_of line)

-- the text of a token behind a space. These words stand behind a `|`
abbrev pub token_text : List ℕ → TokenView → List ℕ
token_text words (word text) = 32 ∷ quote_of (text ∷ [])
token_text words (redirect In) = codes " <"
token_text words (redirect Out) = codes " >"
token_text words (redirect Err) = codes " 2>"
token_text words pipe = codes " | " ++ words

-- the text of tokens
abbrev pub tokens_text : List ℕ → List TokenView → List ℕ
tokens_text words [] = []
tokens_text words (token ∷ tokens) = token_text words token ++ tokens_text words tokens

-- the expression of a command line with these words before those of each of its commands
abbrev pub behind : {E H : Type 0} → List ℕ → List ℕ → Result (TreeView E H) LineError
behind {E} {H} words line =
    line_of {E = E} {H = H} line >>= λ alone.
    result_map_both (λ same. same) errors.Split (split_of line) >>= λ tokens.
    line_of (words ++ tokens_text words tokens)

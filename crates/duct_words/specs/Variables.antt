-- The variables of a text, or the first error in it; and expressions with variables.
use Rattle.std.specs.Prelude.{◌≡◌, ℕ, ◌+◌, List, [], ◌∷◌, ◌++◌, Bool, false, ◌==◌, ◌&&◌, ◌||◌, not, None, Some, Ok, Err, if◌then◌else◌, bytes_eq, codes, drop, find, length, take, Option, Result}
use Rattle.std.specs.Char.{is_ascii_alphanumeric, is_ascii_digit}
use Rattle.std.specs.List.{list_all, list_any, position_or_len}
use Rattle.std.specs.Option.{option_map_or}
use Rattle.std.specs.Result.{result_map_both}
use Rattle.std.specs.Str.Lines.{lines, strip_carriage_return}
use Rattle.duct_system.specs.Name.{is_same_name}
use Rattle.duct_start.specs.TreeView.{TreeView, around, env}
use Rattle.duct_program.specs.Parsed.{◌>>=◌}
use Rattle.duct_words.specs.Split.{TokenView, read, start_at, word}
use Rattle.duct_words.specs.declared.error.SplitError.{SplitError}
use Rattle.duct_words.specs.declared.error.SplitError.TheVariants as splits
use Rattle.duct_words.specs.declared.error.VariablesError.{VariablesError}
use Rattle.duct_words.specs.declared.error.VariablesError.TheVariants.{Split, NoPair, Name, Twice, Memory}

-- a name and a value
abbrev pub Pair : Type 0
Pair = List ℕ × List ℕ

-- the first byte that is no space or tab
abbrev pub first_of : List ℕ → Option ℕ
first_of line = find (λ b. not (b == 32) && not (b == 9)) line

-- whether that is a `#`
abbrev pub is_comment : List ℕ → Bool
is_comment line = option_map_or (λ b. b == 35) (first_of line) false

-- whether it is a letter, a digit or a `_`
abbrev pub is_name_byte : ℕ → Bool
is_name_byte b = is_ascii_alphanumeric b || b == 95

-- whether it is a name: letters, digits and `_`, of which there are some, and no digit first
abbrev pub is_name : List ℕ → Bool
is_name [] = false
is_name (b ∷ bytes) = not (is_ascii_digit b) && list_all is_name_byte (b ∷ bytes)

-- the error of a line that has no tokens
abbrev pub at_line : ℕ → SplitError → VariablesError
at_line number splits.Memory = Memory
at_line number error = Split number error

-- the texts before the first `=` and after it, if there is one
abbrev pub parts_of : List ℕ → Option Pair
parts_of text =
    let place = position_or_len (λ b. b == 61) text in
    if place == length text then None else Some (take place text, drop (place + 1) text)

-- whether it is a quote or a backslash
abbrev pub is_quote : ℕ → Bool
is_quote b = b == 34 || b == 39 || b == 92

-- whether a quote or a backslash stands before the first `=`
abbrev pub has_quoted_name : List ℕ → Bool
has_quoted_name line =
    option_map_or (λ parts. list_any is_quote parts.0) (parts_of line) false

-- the pairs with that of a word
abbrev pub with_word : ℕ → List Pair → List ℕ → Result (List Pair) VariablesError
with_word number pairs text =
    elim (parts_of text) [
      | None ↦ Err (NoPair number)
      | Some pair ↦
          if not (is_name pair.0) then Err (Name number)
          else if list_any (λ before. is_same_name pair.0 before.0) pairs then Err (Twice number)
          else Ok (pairs ++ pair ∷ [])
    ]

-- the pairs with that of a line's tokens: none; one word, of which a shell makes a command if its
-- name is quoted; or one behind `export`
abbrev pub with_tokens : ℕ → List Pair → List ℕ → List TokenView
    → Result (List Pair) VariablesError
with_tokens number pairs line [] = Ok pairs
with_tokens number pairs line (word text ∷ []) =
    if has_quoted_name line then Err (Name number) else with_word number pairs text
with_tokens number pairs line (word first ∷ word text ∷ []) =
    if bytes_eq first (codes "export") then with_word number pairs text else Err (NoPair number)
with_tokens number pairs line others = Err (NoPair number)

-- the pairs with that of a line, which has the tokens that it has behind a command
abbrev pub with_line : ℕ → List Pair → List ℕ → Result (List Pair) VariablesError
with_line number pairs line =
    if is_comment line then Ok pairs
    else result_map_both (λ same. same) (at_line number) (read 0 (start_at false) line)
    >>= λ tokens. with_tokens number pairs line tokens

-- the pairs with those of lines, of which the first has this number
abbrev pub with_lines : ℕ → List Pair → List (List ℕ) → Result (List Pair) VariablesError
with_lines number pairs [] = Ok pairs
with_lines number pairs (line ∷ others) =
    with_line number pairs line >>= λ more. with_lines (number + 1) more others

-- the variables of a text, whose last line may end in a carriage return
abbrev pub variables_of : List ℕ → Result (List Pair) VariablesError
variables_of text = with_lines 1 [] (lines (strip_carriage_return text))

-- the result, seen by a view, is what is read, or an allocation failed
abbrev pub ParsesAs : {A B : Type 0} → (A → B) → Result A VariablesError → Result B VariablesError
    → Type 0
ParsesAs view (Ok value) read = read ≡ Ok (view value)
ParsesAs view (Err Memory) read = Unit {0}
ParsesAs view (Err error) read = read ≡ Err error

-- a tree with these variables, of which the first is the innermost
abbrev pub with_pairs : {E H : Type 0} → List Pair → TreeView E H → TreeView E H
with_pairs [] tree = tree
with_pairs (pair ∷ pairs) tree = with_pairs pairs (around (env pair.0 pair.1) tree)

-- What a shell takes a character for, as its code says; the tokens of a text, read one byte after
-- the other, or why it has none; and what contracts see of tokens, and of what was read so far.
use Rattle.std.specs.Prelude.{◌≡◌, ℕ, suc, List, [], ◌∷◌, ◌++◌, Bool, true, false, ◌==◌, ◌&&◌, ◌||◌, not, Ok, Err, if◌then◌else◌, codes, length, map, string_bytes, bytes_eq, Result}
use Rattle.std.specs.Char.{is_ascii_alphanumeric, is_ascii_digit}
use Rattle.std.specs.List.{list_all, list_any}
use Rattle.duct_system.specs.declared.spec.Stream.{Stream}
use Rattle.duct_system.specs.declared.spec.Stream.TheVariants as streams
use Rattle.duct_program.specs.Parsed.{◌>>=◌}
use Rattle.duct_words.specs.declared.kind.Kind.{Kind}
use Rattle.duct_words.specs.declared.kind.Kind.TheVariants.{Ordinary, Percent, Blank, Newline, SingleQuote, DoubleQuote, Backslash, Pipe, Less, Greater, Equals, Expansion, Special}
use Rattle.duct_words.specs.declared.lexer.Lexer.{Lexer}
use Rattle.duct_words.specs.declared.lexer.Part.{Part}
use Rattle.duct_words.specs.declared.lexer.Part.TheVariants.{Gap, Operator, Plain, Quoted}
use Rattle.duct_words.specs.declared.lexer.Mode.{Mode}
use Rattle.duct_words.specs.declared.lexer.Mode.TheVariants.{Bare, Escape, Single, Double, DoubleEscape}
use Rattle.duct_words.specs.declared.error.SplitError.{SplitError}
use Rattle.duct_words.specs.declared.error.SplitError.TheVariants.{Unquoted, UnclosedQuote, LastBackslash, Memory}
use Rattle.duct_words.specs.declared.token.Token.{Token}
use Rattle.duct_words.specs.declared.token.Token.TheVariants as code

-- whether a code is one of these
abbrev pub is_one_of : List ℕ → ℕ → Bool
is_one_of allowed c = list_any (λ one. one == c) allowed

-- whether it is written without quotes
abbrev pub is_plain : ℕ → Bool
is_plain c = is_ascii_alphanumeric c || is_one_of (codes "@%+:,./-_") c

-- what it is, where no quote is open
unfoldable pub kind_of : ℕ → Kind
kind_of c =
    if c == 37 then Percent
    else if is_plain c then Ordinary
    else if is_one_of (codes " \t") c then Blank
    else if c == 10 then Newline
    else if c == 39 then SingleQuote
    else if c == 34 then DoubleQuote
    else if c == 92 then Backslash
    else if c == 124 then Pipe
    else if c == 60 then Less
    else if c == 62 then Greater
    else if c == 61 then Equals
    else if is_one_of (codes "$`") c then Expansion
    else if is_one_of (codes "*?[~#;&(){}!") c then Special
    else Ordinary

-- a word as bytes, or an operator
pub data TokenView : Type 0 where
  word : List ℕ → TokenView
  pipe : TokenView
  redirect : Stream → TokenView

-- what was read so far: the tokens, the word that has begun, what stands before, what quotes,
-- whether a shell takes the next word that is no path for an assignment or a command, and whether
-- the next word is the path of a redirection
pub record State : Type 0 where
  pub tokens : List TokenView
  pub word : List ℕ
  pub part : Part
  pub mode : Mode
  pub at_command : Bool
  pub at_path : Bool

-- a token, with a word as bytes
abbrev pub token_view : Token → TokenView
token_view (code.Word text) = word (string_bytes text)
token_view code.Pipe = pipe
token_view (code.Redirect stream) = redirect stream

-- what was read so far
abbrev pub lexer_view : Lexer → State
lexer_view lexer = record {
  tokens = map token_view lexer.tokens.items;
  word = string_bytes lexer.word;
  part = lexer.part;
  mode = lexer.mode;
  at_command = lexer.at_command;
  at_path = lexer.at_path;
}

-- before the first byte, where a shell takes the first word for an assignment or a command, or not
abbrev pub start_at : Bool → State
start_at at_command = record {
  tokens = [];
  word = [];
  part = Gap;
  mode = Bare;
  at_command = at_command;
  at_path = false;
}

-- before the first byte of a text
abbrev pub start : State
start = start_at true

-- with an unquoted part of a word, which leaves a word quoted that was so
abbrev pub ordinary : State → List ℕ → State
ordinary state bytes = record state {
  word = state.word ++ bytes;
  part = elim state.part [ Gap ↦ Plain | Operator ↦ Plain | Plain ↦ Plain | Quoted ↦ Quoted ];
}

-- with a part of a word in this mode
abbrev pub pushed : Mode → State → List ℕ → State
pushed mode state bytes = record state { word = state.word ++ bytes; mode = mode }

-- with the word as a token; after a path an assignment may stand where it could before
abbrev pub ended : State → State
ended state = record state {
  tokens = state.tokens ++ word state.word ∷ [];
  word = [];
  at_command = state.at_path && state.at_command;
  at_path = false;
}

-- with the word as a token, if one has begun
abbrev pub finished : State → State
finished state =
    elim state.part [ Gap ↦ state | Operator ↦ state | Plain ↦ ended state | Quoted ↦ ended state ]

-- behind an operator
abbrev pub behind : TokenView → State → State
behind token state = record state {
  tokens = state.tokens ++ token ∷ [];
  part = Operator;
  at_path = true;
}

-- after an operator, which doesn't stand directly behind another one
abbrev pub operator : TokenView → ℕ → State → ℕ → Result State SplitError
operator token place state c =
    elim state.part [
      | Operator ↦ Err (Unquoted c place)
      | _ ↦ Ok (behind token (finished state))
    ]

-- whether the word is an unquoted number
abbrev pub is_number : State → Bool
is_number state =
    elim state.part [
      | Plain ↦ list_all is_ascii_digit state.word
      | _ ↦ false
    ]

-- whether the word and this stream are those of `2>`
abbrev pub is_error : Stream → State → Bool
is_error streams.Out state = bytes_eq state.word (codes "2")
is_error _ state = false

-- after a `<` or `>`, which redirects this stream unless a 2 stands before it
abbrev pub redirection : Stream → ℕ → State → ℕ → Result State SplitError
redirection stream place state c =
    if is_number state then (
    if is_error stream state then Ok (behind (redirect streams.Err) (record state { word = [] }))
    else Err (Unquoted c place))
    else operator (redirect stream) place state c

-- before a command
abbrev pub before_command : State → State
before_command state = record state { at_command = true; at_path = false }

-- after a byte outside of quotes
abbrev pub bare : ℕ → State → ℕ → List ℕ → Result State SplitError
bare place state c bytes =
    elim (kind_of c) [
      | Ordinary ↦ Ok (ordinary state bytes)
      | Percent ↦
          if state.at_path || not state.at_command || not (length state.word == 0)
          then Ok (ordinary state bytes) else Err (Unquoted c place)
      | Blank ↦ Ok (record (finished state) { part = Gap })
      | SingleQuote ↦ Ok (record state { part = Quoted; mode = Single place })
      | DoubleQuote ↦ Ok (record state { part = Quoted; mode = Double place })
      | Backslash ↦ Ok (record state { mode = Escape place })
      | Pipe ↦ operator pipe place state c >>= λ after. Ok (before_command after)
      | Less ↦ redirection streams.In place state c
      | Greater ↦ redirection streams.Out place state c
      | Equals ↦
          if state.at_path || not state.at_command then Ok (ordinary state bytes)
          else Err (Unquoted c place)
      | _ ↦ Err (Unquoted c place)
    ]

-- after a byte behind a backslash that is outside of quotes
abbrev pub escaped : State → ℕ → List ℕ → State
escaped state c bytes =
    if c == 10 then record state { mode = Bare }
    else record (pushed Bare state bytes) { part = Quoted }

-- after a byte between single quotes
abbrev pub single : State → ℕ → List ℕ → State
single state c bytes =
    if c == 39 then record state { mode = Bare } else pushed state.mode state bytes

-- after a byte between double quotes that were opened at a place
abbrev pub double : ℕ → ℕ → State → ℕ → List ℕ → Result State SplitError
double opened place state c bytes =
    if c == 34 then Ok (record state { mode = Bare })
    else if c == 92 then Ok (record state { mode = DoubleEscape opened })
    else if is_one_of (codes "$`") c then Err (Unquoted c place)
    else Ok (pushed state.mode state bytes)

-- after a byte behind a backslash between double quotes that were opened at a place
abbrev pub double_escaped : ℕ → State → ℕ → List ℕ → State
double_escaped opened state c bytes =
    if c == 10 then record state { mode = Double opened }
    else if is_one_of (codes "\"\\$`") c then pushed (Double opened) state bytes
    else pushed (Double opened) state (92 ∷ bytes)

-- after the byte c at a place; `bytes` are what is added to a word
abbrev pub step : ℕ → State → ℕ → List ℕ → Result State SplitError
step place state c bytes =
    elim state.mode [
      | Bare ↦ bare place state c bytes
      | Escape at ↦ Ok (escaped state c bytes)
      | Single at ↦ Ok (single state c bytes)
      | Double opened ↦ double opened place state c bytes
      | DoubleEscape opened ↦ Ok (double_escaped opened state c bytes)
    ]

-- the tokens at the end
abbrev pub end_of : State → Result (List TokenView) SplitError
end_of state =
    elim state.mode [
      | Bare ↦ Ok (finished state).tokens
      | Escape place ↦ Err (LastBackslash place)
      | Single place ↦ Err (UnclosedQuote place)
      | Double place ↦ Err (UnclosedQuote place)
      | DoubleEscape place ↦ Err (UnclosedQuote place)
    ]

-- the tokens after the bytes from a place on
abbrev pub read : ℕ → State → List ℕ → Result (List TokenView) SplitError
read place state [] = end_of state
read place state (b ∷ bytes) = step place state b (b ∷ []) >>= λ after. read (suc place) after bytes

-- the tokens of a text, or the first error in it from left to right
abbrev pub split_of : List ℕ → Result (List TokenView) SplitError
split_of text = read 0 start text

-- the error is the one that is read, or an allocation failed
abbrev pub RefusesAs : {B : Type 0} → SplitError → Result B SplitError → Type 0
RefusesAs Memory read = Unit {0}
RefusesAs error read = read ≡ Err error

-- the result, seen by a view, is what is read, or an allocation failed
abbrev pub ParsesAs : {A B : Type 0} → (A → B) → Result A SplitError → Result B SplitError → Type 0
ParsesAs view (Ok value) read = read ≡ Ok (view value)
ParsesAs view (Err error) read = RefusesAs error read

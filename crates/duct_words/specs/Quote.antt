-- The text of some words.
use Rattle.std.specs.Prelude.{ℕ, List, [], ◌∷◌, ◌++◌, Bool, true, false, length, ◌==◌, ◌||◌, ◌&&◌, not, if◌then◌else◌, bytes_eq, codes}
use Rattle.std.specs.List.{list_all}
use Rattle.duct_words.specs.Split.{is_plain}

-- whether a byte needs no quotes in a word, which is the first of its command or not
abbrev pub is_bare_byte : Bool → ℕ → Bool
is_bare_byte is_first b = is_plain b || (b == 61 && not is_first)

-- whether a word begins as an option of `sh` does, or as a job
abbrev pub is_marked : List ℕ → Bool
is_marked [] = false
is_marked (b ∷ bytes) = b == 45 || b == 43 || b == 37

-- whether a shell obeys a word as the first of its command: it begins a compound command, or
-- continues or ends one, or is one of bash's own
abbrev pub is_reserved : List ℕ → Bool
is_reserved word =
    bytes_eq word (codes "if") || bytes_eq word (codes "for") || bytes_eq word (codes "case")
    || bytes_eq word (codes "while") || bytes_eq word (codes "until")
    || bytes_eq word (codes "then") || bytes_eq word (codes "elif") || bytes_eq word (codes "else")
    || bytes_eq word (codes "fi") || bytes_eq word (codes "in") || bytes_eq word (codes "do")
    || bytes_eq word (codes "done") || bytes_eq word (codes "esac")
    || bytes_eq word (codes "function") || bytes_eq word (codes "select")
    || bytes_eq word (codes "time") || bytes_eq word (codes "coproc")

-- whether a word needs no quotes as the first of its command, nor do its bytes
abbrev pub has_no_quotes : Bool → List ℕ → Bool
has_no_quotes is_first word =
    not (is_first && (is_marked word || is_reserved word)) && list_all (is_bare_byte is_first) word

-- whether a word needs no quotes
abbrev pub is_bare : Bool → List ℕ → Bool
is_bare is_first word = not (length word == 0) && has_no_quotes is_first word

-- the rest of a word in single quotes, with the last one
abbrev pub between : List ℕ → List ℕ
between [] = 39 ∷ []
between (b ∷ bytes) = if b == 39 then 39 ∷ 92 ∷ 39 ∷ 39 ∷ between bytes else b ∷ between bytes

-- the text of a word, which is the first of its command or not
abbrev pub quoted : Bool → List ℕ → List ℕ
quoted is_first word = if is_bare is_first word then word else 39 ∷ between word

-- the text of words behind another one
abbrev pub further : List (List ℕ) → List ℕ
further [] = []
further (word ∷ words) = 32 ∷ quoted false word ++ further words

-- the text of words
abbrev pub quote_of : List (List ℕ) → List ℕ
quote_of [] = []
quote_of (word ∷ words) = quoted true word ++ further words

-- A text as a form of its parts: what it is where they are printable ASCII, and what std prints.
use Rattle.std.specs.Prelude.{ℕ, List, [], ◌∷◌, ◌++◌, Bool, true, ◌&&◌, map, codes, Some, None, if◌then◌else◌, ◌==◌, nat_le, ◌||◌, Option}
use Rattle.std.specs.Fmt.{◌++?◌, debug_list, debug_str, decimal}
use Rattle.std.specs.List.{list_all, flat_map}

-- whether each character is printable ASCII: these are the texts whose debug form is promised
abbrev pub is_printable : List ℕ → Bool
is_printable text = list_all (λ c. nat_le 32 c && nat_le c 126) text

-- a character between the quotes: a quote or a backslash gets a backslash before it
abbrev pub escaped : ℕ → List ℕ
escaped c = if c == 34 || c == 92 then 92 ∷ c ∷ [] else c ∷ []

-- a text in quotes
abbrev pub quoted : List ℕ → List ℕ
quoted text = codes "\"" ++ flat_map escaped text ++ codes "\""

-- pieces with a comma and a space between each two
abbrev pub listed : List (List ℕ) → List ℕ
listed [] = []
listed (piece ∷ []) = piece
listed (piece ∷ next ∷ pieces) = piece ++ codes ", " ++ listed (next ∷ pieces)

-- some texts, each in quotes, in brackets
abbrev pub quoted_list : List (List ℕ) → List ℕ
quoted_list texts = codes "[" ++ listed (map quoted texts) ++ codes "]"

-- a text as it is, a text in quotes, a list of numbers, a list of texts in quotes, or one form
-- before another
pub data Form : Type 0 where
  plain : List ℕ → Form
  quote : List ℕ → Form
  numbers : List ℕ → Form
  texts : List (List ℕ) → Form
  before : Form → Form → Form

-- forms one after the other
abbrev pub joined : List Form → Form
joined [] = plain []
joined (form ∷ []) = form
joined (form ∷ next ∷ forms) = before form (joined (next ∷ forms))

-- the forms of some values, one after the other
abbrev pub each_form : {A : Type 0} → (A → Form) → List A → Form
each_form form [] = plain []
each_form form (value ∷ others) = before (form value) (each_form form others)

-- words, then a text in quotes
abbrev pub of_text : List ℕ → List ℕ → Form
of_text words text = joined (plain words ∷ quote text ∷ [])

-- words, then a number
abbrev pub of_number : List ℕ → ℕ → Form
of_number words number = plain (words ++ decimal number)

-- the text of a form
abbrev pub form_text : Form → List ℕ
form_text (plain bytes) = bytes
form_text (quote text) = quoted text
form_text (numbers values) = codes "[" ++ listed (map decimal values) ++ codes "]"
form_text (texts all) = quoted_list all
form_text (before form next) = form_text form ++ form_text next

-- whether all texts of a form are printable ASCII
abbrev pub is_form_printable : Form → Bool
is_form_printable (plain bytes) = true
is_form_printable (quote text) = is_printable text
is_form_printable (numbers values) = true
is_form_printable (texts all) = list_all is_printable all
is_form_printable (before form next) = is_form_printable form && is_form_printable next

-- the text of a form whose texts are printable ASCII; else no promise
abbrev pub text_of : Form → Option (List ℕ)
text_of form = if is_form_printable form then Some (form_text form) else None

-- what std's formatting prints for a form; std promises nothing for a text that is not ASCII
abbrev pub printed : Form → Option (List ℕ)
printed (plain bytes) = Some bytes
printed (quote text) = debug_str text
printed (numbers values) = debug_list (λ value. Some (decimal value)) values
printed (texts all) = debug_list debug_str all
printed (before form next) = printed form ++? printed next

-- Bytes are written as text where they are UTF-8, and else as numbers.
use Rattle.std.proofs.Common.{◌≡◌, ℕ, List, map, Bool, true, false, if◌then◌else◌, refl, ap, sym, ◌∙◌, IsUtf8}
use Rattle.std.specs.Str.{is_utf8}
use Rattle.std.proofs.lemmas.Str.{IsUtf8-from_is_utf8, is_utf8-from_IsUtf8}
use Rattle.serde_json.specs.Data.{Data, string}
use Rattle.duct_replay.specs.Lines.{bytes_data, list_data, number_data}

chosen : List ℕ → Bool → Data
chosen bytes text = if text then string bytes else list_data (map number_data bytes)

pub as_text : (bytes text : List ℕ) → text ≡ bytes → IsUtf8 bytes → string text ≡ bytes_data bytes
unfolding bytes_data chosen
as_text bytes text is valid = ap string is ∙ sym (ap (chosen bytes) (is_utf8-from_IsUtf8 bytes valid))

pub as_numbers : (bytes : List ℕ) → (IsUtf8 bytes → ⊥)
    → list_data (map number_data bytes) ≡ bytes_data bytes
unfolding bytes_data chosen
as_numbers bytes other = sym (ap (chosen bytes) (decided _ refl))
  where
    decided : (text : Bool) → is_utf8 bytes ≡ text → is_utf8 bytes ≡ false
    decided true is = absurd (other (IsUtf8-from_is_utf8 bytes is))
    decided false is = is

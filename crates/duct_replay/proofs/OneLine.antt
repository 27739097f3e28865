-- The compact text of JSON without floats has no newline and no carriage return.
use Rattle.std.proofs.Common.{◌≡◌, ℕ, zero, suc, ◌+◌, ◌/◌, ◌%◌, ◌<◌, ◌==◌, ◌||◌, List, [], ◌∷◌, ◌++◌, Bool, true, false, cond, if◌then◌else◌, nat_lt, refl, sym, subst, arith, pos, negsuc, true≢false, ne_eqb, eqb-true}
use Rattle.std.specs.Char.{digit_char}
use Rattle.std.specs.Fmt.{decimal, digits, digits_onto, digit_glyph}
use Rattle.std.specs.List.{AllByRecursion}
use Rattle.json.specs.Print.{escape, escape_byte, escape_letter, quoted}
use Rattle.serde_json.specs.Data.{Num, unsigned, negative, float, Data, null, boolean, number, string, array, object, Items, no_items, item, Members, no_members, member}
use Rattle.serde_json.specs.Written.{compact_text, items_text, members_text, number_text, comma_if, has_float, items_have_float, members_have_float}

-- the byte ends no line
pub record IsInside (byte : ℕ) : Type 0 where
  pub no_newline : (byte == 10) ≡ false
  pub no_return : (byte == 13) ≡ false

abbrev pub AreInside : List ℕ → Type 0
AreInside bytes = AllByRecursion IsInside bytes

high : (byte : ℕ) → 13 < byte → IsInside byte
high byte above = record {
  no_newline = ne_eqb byte 10 (λ is. absurd (omega arith));
  no_return = ne_eqb byte 13 (λ is. absurd (omega arith));
}

joined : (one other : List ℕ) → AreInside one → AreInside other → AreInside (one ++ other)
joined [] other inside more = more
joined (byte ∷ one) other inside more = (inside.0, joined one other inside.1 more)

-- ---- numbers

glyph_inside : (n : ℕ) → IsInside (digit_glyph false n)
glyph_inside n = either (nat_lt n 10)
  where
    either : (low : Bool) → IsInside (if low then 48 + n else (if false then 55 + n else 87 + n))
    either true = high (48 + n) (omega arith)
    either false = high (87 + n) (omega arith)

last_or : (last : Bool) (one other : List ℕ) → AreInside one → AreInside other
    → AreInside (if last then one else other)
last_or true one other inside more = inside
last_or false one other inside more = more

digits_inside : (k n : ℕ) (more : List ℕ) → AreInside more
    → AreInside (digits_onto k 10 false n more)
digits_inside zero n more inside = inside
digits_inside (suc k) n more inside =
    last_or (n / 10 == 0) (digit_glyph false (n % 10) ∷ more) (digits_onto k 10 false (n / 10) (digit_glyph false (n % 10) ∷ more)) (glyph_inside (n % 10), inside) (digits_inside k (n / 10) (digit_glyph false (n % 10) ∷ more) (glyph_inside (n % 10), inside))

decimal_inside : (n : ℕ) → AreInside (decimal n)
unfolding digits
decimal_inside n = digits_inside 64 n [] tt

number_inside : (n : Num) → AreInside (number_text n)
number_inside (unsigned n) = decimal_inside n
number_inside (negative (pos n)) = decimal_inside n
number_inside (negative (negsuc n)) = (high 45 (omega arith), decimal_inside (suc n))
number_inside (float x) = tt

-- ---- texts

pick : (test : Bool) (one other : ℕ) → IsInside one → IsInside other
    → IsInside (cond test one other)
pick true one other inside more = inside
pick false one other inside more = more

digit_inside : (n : ℕ) → IsInside (digit_char n)
digit_inside n = pick (nat_lt n 10) (48 + n) (87 + n) (high (48 + n) (omega arith)) (high (87 + n) (omega arith))

zero_inside : IsInside 0
zero_inside = record { no_newline = refl; no_return = refl }

letter_inside : (x : ℕ) → IsInside x → IsInside (escape_letter x)
letter_inside x inside =
    pick ((x == 34) || (x == 92)) x _ inside (pick (x == 8) 98 _ (high 98 (omega arith)) (pick (x == 12) 102 _ (high 102 (omega arith)) (pick (x == 10) 110 _ (high 110 (omega arith)) (pick (x == 13) 114 _ (high 114 (omega arith)) (pick (x == 9) 116 0 (high 116 (omega arith)) zero_inside)))))

escaped_inside : (x : ℕ) → IsInside x → AreInside (escape_byte x)
unfolding escape_byte
escaped_inside x inside = either (nat_lt 0 (escape_letter x)) (nat_lt x 32)
  where
    either : (short low : Bool) → AreInside (cond short (92 ∷ escape_letter x ∷ []) (cond low (92 ∷ 117 ∷ 48 ∷ 48 ∷ digit_char (x / 16) ∷ digit_char (x % 16) ∷ []) (x ∷ [])))
    either true low = (high 92 (omega arith), (letter_inside x inside, tt))
    either false true =
        (high 92 (omega arith), (high 117 (omega arith), (high 48 (omega arith), (high 48 (omega arith), (digit_inside (x / 16), (digit_inside (x % 16), tt))))))
    either false false = (inside, tt)

newline_escaped : AreInside (escape_byte 10)
unfolding escape_byte
newline_escaped = (high 92 (omega arith), (high 110 (omega arith), tt))

return_escaped : AreInside (escape_byte 13)
unfolding escape_byte
return_escaped = (high 92 (omega arith), (high 114 (omega arith), tt))

byte_inside : (x : ℕ) → AreInside (escape_byte x)
byte_inside x = either _ _ refl refl
  where
    either : (newline return : Bool) → (x == 10) ≡ newline → (x == 13) ≡ return
        → AreInside (escape_byte x)
    either true return is other = subst (λ x. AreInside (escape_byte x)) (sym (eqb-true x 10 is)) newline_escaped
    either false true is other = subst (λ x. AreInside (escape_byte x)) (sym (eqb-true x 13 other)) return_escaped
    either false false is other = escaped_inside x (record { no_newline = is; no_return = other })

escape_inside : (text : List ℕ) → AreInside (escape text)
escape_inside [] = tt
escape_inside (x ∷ text) =
    joined (escape_byte x) (escape text) (byte_inside x) (escape_inside text)

quoted_inside : (text : List ℕ) → AreInside (quoted text)
quoted_inside text =
    (high 34 (omega arith), joined (escape text) (34 ∷ []) (escape_inside text) (high 34 (omega arith), tt))

-- ---- values

left_false : (a b : Bool) → (a || b) ≡ false → a ≡ false
left_false true b is = absurd (true≢false is)
left_false false b is = refl

right_false : (a b : Bool) → (a || b) ≡ false → b ≡ false
right_false true b is = absurd (true≢false is)
right_false false b is = is

comma_inside : (later : Bool) → AreInside (comma_if later)
comma_inside true = (high 44 (omega arith), tt)
comma_inside false = tt

mutual
  pub text_inside : (json : Data) → has_float json ≡ false → AreInside (compact_text json)
  text_inside null exact =
      (high 110 (omega arith), (high 117 (omega arith), (high 108 (omega arith), (high 108 (omega arith), tt))))
  text_inside (boolean true) exact =
      (high 116 (omega arith), (high 114 (omega arith), (high 117 (omega arith), (high 101 (omega arith), tt))))
  text_inside (boolean false) exact =
      (high 102 (omega arith), (high 97 (omega arith), (high 108 (omega arith), (high 115 (omega arith), (high 101 (omega arith), tt)))))
  text_inside (number n) exact = number_inside n
  text_inside (string text) exact = quoted_inside text
  text_inside (array items) exact = (high 91 (omega arith), items_inside false items exact)
  text_inside (object fields) exact = (high 123 (omega arith), members_inside false fields exact)

  items_inside : (later : Bool) (items : Items) → items_have_float items ≡ false
      → AreInside (items_text later items)
  items_inside later no_items exact = (high 93 (omega arith), tt)
  items_inside later (item json items) exact =
      joined (comma_if later) _ (comma_inside later) (joined (compact_text json) (items_text true items) (text_inside json (left_false (has_float json) (items_have_float items) exact)) (items_inside true items (right_false (has_float json) (items_have_float items) exact)))

  members_inside : (later : Bool) (fields : Members) → members_have_float fields ≡ false
      → AreInside (members_text later fields)
  members_inside later no_members exact = (high 125 (omega arith), tt)
  members_inside later (member key json fields) exact =
      joined (comma_if later) _ (comma_inside later) (joined (quoted key) _ (quoted_inside key) (high 58 (omega arith), joined (compact_text json) (members_text true fields) (text_inside json (left_false (has_float json) (members_have_float fields) exact)) (members_inside true fields (right_false (has_float json) (members_have_float fields) exact))))

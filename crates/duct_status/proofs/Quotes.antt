-- What std's debug forms print of printable texts, and of lists of them.
use Rattle.std.specs.List.{list_all, flat_map}
use Rattle.std.specs.Char.{is_ascii}
use Rattle.std.specs.Fmt.{debug_str, debug_escape, debug_items, debug_list, comma_space}
use Rattle.std.proofs.Common.{◌≡◌, ◌≤◌, refl, sym, subst, arith, append_assoc, rules, inl, inr, ℕ, List, [], ◌∷◌, ◌++◌, map, codes, Bool, true, ◌&&◌, nat_le, Some, Option}
use Rattle.std.proofs.lemmas.Bool.{and_parts, and_from, leb-true, lt-ltb, le-ltb, ne_eqb, cases_eq}
use Rattle.duct_status.specs.Form.{is_printable, escaped, quoted, listed, quoted_list}

printable_bounds : (c : ℕ) → (nat_le 32 c && nat_le c 126) ≡ true → (32 ≤ c) × (c ≤ 126)
printable_bounds c is = let both = and_parts (nat_le 32 c) (nat_le c 126) is in (leb-true 32 c both.0, leb-true c 126 both.1)

plain_escape : (c : ℕ) → 32 ≤ c → c ≤ 126 → (c ≡ 34 → ⊥) → (c ≡ 92 → ⊥)
    → debug_escape 34 c ≡ escaped c
unfolding debug_escape
plain_escape c low high no_quote no_backslash =
    let e34 = ne_eqb c 34 no_quote in
    let e92 = ne_eqb c 92 no_backslash in
    let e0 = ne_eqb c 0 (λ (e : c ≡ 0). omega arith) in
    let e9 = ne_eqb c 9 (λ (e : c ≡ 9). omega arith) in
    let e10 = ne_eqb c 10 (λ (e : c ≡ 10). omega arith) in
    let e13 = ne_eqb c 13 (λ (e : c ≡ 13). omega arith) in
    let e127 = ne_eqb c 127 (λ (e : c ≡ 127). omega arith) in
    let e32 = le-ltb c 32 low in
    simp (e34, e92, e0, e9, e10, e13, e127, e32)

escape_at : (c k : ℕ) → c ≡ k → debug_escape 34 k ≡ escaped k → debug_escape 34 c ≡ escaped c
escape_at c k e at = subst (λ (n : ℕ). debug_escape 34 n ≡ escaped n) (sym e) at

quote_escape : debug_escape 34 34 ≡ escaped 34
unfolding debug_escape
quote_escape = refl

backslash_escape : debug_escape 34 92 ≡ escaped 92
unfolding debug_escape
backslash_escape = refl

-- a printable character between the quotes
pub escape-printable : (c : ℕ) → (nat_le 32 c && nat_le c 126) ≡ true
    → debug_escape 34 c ≡ escaped c
escape-printable c is =
    let bounds = printable_bounds c is in
    elim (cases_eq c 34) [
      | inl e ↦ escape_at c 34 e quote_escape
      | inr no_quote ↦ elim (cases_eq c 92) [
        | inl e ↦ escape_at c 92 e backslash_escape
        | inr no_backslash ↦ plain_escape c bounds.0 bounds.1 no_quote no_backslash
      ]
    ]

ascii-printable : (text : List ℕ) → is_printable text ≡ true → list_all is_ascii text ≡ true
ascii-printable [] is = refl
ascii-printable (c ∷ text) is =
    let both = and_parts (nat_le 32 c && nat_le c 126) (is_printable text) is in
    let bounds = printable_bounds c both.0 in
    and_from _ _ (lt-ltb c 128 (omega arith)) (ascii-printable text both.1)

escapes-printable : (text : List ℕ) → is_printable text ≡ true
    → flat_map (debug_escape 34) text ≡ flat_map escaped text
escapes-printable [] is = refl
escapes-printable (c ∷ text) is =
    let both = and_parts (nat_le 32 c && nat_le c 126) (is_printable text) is in
    let here = escape-printable c both.0 in
    let rest = escapes-printable text both.1 in
    rw (here, rest) refl

-- a printable text is printed in quotes
pub debug_str-printable : (text : List ℕ) → is_printable text ≡ true
    → debug_str text ≡ Some (quoted text)
debug_str-printable text is =
    rw (ascii-printable text is, escapes-printable text is) refl

-- pieces, each after a comma and a space
abbrev pub after : List (List ℕ) → List ℕ
after [] = []
after (piece ∷ pieces) = comma_space ++ (piece ++ after pieces)

listed-after : (piece : List ℕ) (pieces : List (List ℕ))
    → piece ++ after pieces ≡ listed (piece ∷ pieces)
listed-after piece [] = search rules
listed-after piece (next ∷ pieces) = rw (listed-after next pieces) (sym (append_assoc piece comma_space (listed (next ∷ pieces))))

items-after : {X : Type 0} (f : X → Option (List ℕ)) (g : X → List ℕ) (p : X → Bool)
    → ((x : X) → p x ≡ true → f x ≡ Some (g x)) → (xs : List X) → list_all p xs ≡ true
    → debug_items f comma_space xs ≡ Some (after (map g xs))
items-after f g p at [] is = refl
items-after f g p at (x ∷ xs) is =
    let both = and_parts (p x) (list_all p xs) is in
    rw (at x both.0, items-after f g p at xs both.1) refl

-- a list whose elements each print a text is printed as a list of these texts
pub debug_list-listed : {X : Type 0} (f : X → Option (List ℕ)) (g : X → List ℕ) (p : X → Bool)
    → ((x : X) → p x ≡ true → f x ≡ Some (g x)) → (xs : List X) → list_all p xs ≡ true
    → debug_list f xs ≡ Some (codes "[" ++ listed (map g xs) ++ codes "]")
debug_list-listed f g p at [] is = refl
debug_list-listed f g p at (x ∷ xs) is =
    let both = and_parts (p x) (list_all p xs) is in
    rw (at x both.0, items-after f g p at xs both.1, listed-after (g x) (map g xs)) refl

-- a list of printable texts is printed as a list of texts in quotes
pub debug_list-printable : (texts : List (List ℕ)) → list_all is_printable texts ≡ true
    → debug_list debug_str texts ≡ Some (quoted_list texts)
debug_list-printable texts is = debug_list-listed debug_str quoted is_printable debug_str-printable texts is

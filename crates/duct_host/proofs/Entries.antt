-- How an entry of the parent's environment is split.
use Rattle.std.proofs.Common.{◌≡◌, ◌≢◌, ◌<◌, ◌∙◌, suc, refl, ap, length, get_or, arith, ℕ, List, [], ◌∷◌, ◌++◌, Some, None, if◌then◌else◌, option_map, Option}
use Rattle.std.proofs.lemmas.Bool.{ne_eqb}
use Rattle.duct_host.specs.Entries.{with_front, parts_at_sign, variable_of}

-- the parts of a text after a byte that is no `=`
parts_behind : (byte : ℕ) (rest : List ℕ) → byte ≢ 61 →
    parts_at_sign (byte ∷ rest) ≡ option_map (with_front (byte ∷ [])) (parts_at_sign rest)
parts_behind byte rest other =
    ap (λ b. if b then Some ([], rest) else option_map (with_front (byte ∷ [])) (parts_at_sign rest)) (ne_eqb byte 61 other)

-- no bytes before a name
unfronted : (parts : Option (List ℕ × List ℕ)) → option_map (with_front []) parts ≡ parts
unfronted None = refl
unfronted (Some pair) = refl

-- a text without a `=` has no parts
pub never_parted : (text : List ℕ) → ((i : ℕ) → i < length text → get_or text i 0 ≢ 61) → parts_at_sign text ≡ None
never_parted [] free = refl
never_parted (byte ∷ rest) free =
    parts_behind byte rest (free 0 (omega arith))
    ∙ ap (option_map (with_front (byte ∷ []))) (never_parted rest (λ i below. free (suc i) (omega (arith, below))))

-- a text is split at a `=` that has no other one before it
pub parted_first : (name value : List ℕ) → ((i : ℕ) → i < length name → get_or name i 0 ≢ 61) →
    parts_at_sign (name ++ 61 ∷ value) ≡ Some (name, value)
parted_first [] value free = refl
parted_first (byte ∷ rest) value free =
    parts_behind byte (rest ++ 61 ∷ value) (free 0 (omega arith))
    ∙ ap (option_map (with_front (byte ∷ []))) (parted_first rest value (λ i below. free (suc i) (omega (arith, below))))

-- an entry that doesn't begin with a `=` is split as a text is, with nothing before its name
pub parted_unsigned : (text : List ℕ) → ((rest : List ℕ) → text ≢ 61 ∷ rest) →
    option_map (with_front []) (parts_at_sign text) ≡ variable_of text
parted_unsigned [] other = refl
parted_unsigned (byte ∷ rest) other =
    unfronted (parts_at_sign (byte ∷ rest)) ∙ parts_behind byte rest (λ same. other rest (ap (λ b. b ∷ rest) same))

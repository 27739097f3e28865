-- The tokens of quoted words are these words.
use Rattle.std.proofs.Common.{◌≡◌, ℕ, suc, Bool, true, false, not, List, [], ◌∷◌, ◌++◌, map, Ok, refl, sym, ap, subst, ◌∙◌, append_assoc, length, ⊎_elim, inl, inr, ◌⊎◌, ◌≢◌, ◌==◌, ◌&&◌, ◌||◌, arith, if◌then◌else◌, Result}
use Rattle.std.proofs.lemmas.Bool.{and_parts, cases_Bool}
use Rattle.std.proofs.lemmas.Bool.Decides.{eqb_tells, nat_tests}
use Rattle.std.proofs.lemmas.List.{append-nil}
use Rattle.std.specs.List.{list_all}
use Rattle.duct_words.proofs.Characters.{between_one}
use Rattle.duct_program.specs.Parsed.{◌>>=◌}
use Rattle.duct_words.specs.Quote.{between, further, has_no_quotes, is_bare, is_bare_byte, is_marked, is_reserved, quote_of, quoted}
use Rattle.duct_words.specs.Split.{State, TokenView, bare, is_plain, kind_of, ordinary, read, single, split_of, word}
use Rattle.duct_words.specs.declared.error.SplitError.{SplitError}
use Rattle.duct_words.specs.declared.kind.Kind.TheVariants.{Ordinary}
use Rattle.duct_words.specs.declared.lexer.Part.{Part}
use Rattle.duct_words.specs.declared.lexer.Part.TheVariants.{Gap, Plain, Quoted}
use Rattle.duct_words.specs.declared.lexer.Mode.{Mode}
use Rattle.duct_words.specs.declared.lexer.Mode.TheVariants.{Bare, Single}

-- tokens, and a word that has begun
abbrev within : List TokenView → Bool → List ℕ → Part → Mode → State
within tokens is_first bytes part mode = record {
  tokens = tokens;
  word = bytes;
  part = part;
  mode = mode;
  at_command = is_first;
  at_path = false;
}

-- what is read of these bytes in a state is what is read of these bytes in the other one, from some
-- place on
abbrev ReadsOn : ℕ → State → List ℕ → State → List ℕ → Type 0
ReadsOn place state bytes after rest = (there : ℕ) × (read place state bytes ≡ read there after rest)

plain_kind : (b : ℕ) → (b == 37) ≡ false → is_plain b ≡ true → kind_of b ≡ Ordinary
unfolding kind_of
plain_kind b other plain = rw (other, plain, kind_of)

not_first : (is_first : Bool) → not is_first ≡ true → is_first ≡ false
not_first true is = absurd (cc)
not_first false is = refl

-- a byte that needs no quotes is read as it is
abbrev IsOrdinary : ℕ → State → ℕ → Type 0
IsOrdinary place state b = bare place state b (b ∷ []) ≡ Ok (ordinary state (b ∷ []))

equals_sign : (place : ℕ) (tokens : List TokenView) (bytes : List ℕ) (part : Part)
    → IsOrdinary place (within tokens false bytes part Bare) 61
unfolding kind_of
equals_sign place tokens bytes part = refl

-- a `%` that doesn't begin the first word
percent_sign : (place : ℕ) (tokens : List TokenView) (is_first : Bool) (bytes : List ℕ) (part : Part)
    → (is_first ≡ true → bytes ≡ [] → ⊥)
    → IsOrdinary place (within tokens is_first bytes part Bare) 37
unfolding kind_of
percent_sign place tokens false bytes part inside = refl
percent_sign place tokens true [] part inside = absurd (inside refl refl)
percent_sign place tokens true (b ∷ bytes) part inside =
    let some : (length (b ∷ bytes) == 0) ≡ false = grind (arith, nat_tests) in rw (some, bare)

other_byte : (place : ℕ) (tokens : List TokenView) (is_first : Bool) (bytes : List ℕ) (part : Part) (b : ℕ)
    → is_bare_byte is_first b ≡ true → (b == 37) ≡ false
    → IsOrdinary place (within tokens is_first bytes part Bare) b
other_byte place tokens is_first bytes part b needs_none other =
    ⊎_elim
    (λ (plain : is_plain b ≡ true). rw (plain_kind b other plain, bare))
    (λ (special : is_plain b ≡ false).
    let equals : (b == 61 && not is_first) ≡ true = rw special at needs_none in
    let parts = and_parts (b == 61) (not is_first) equals in
    let is : b ≡ 61 = ⊎_elim (λ (yes : ((b == 61) ≡ true) × (b ≡ 61)). yes.1)
    (λ (no : ((b == 61) ≡ false) × (b ≢ 61)). absurd (cc)) (eqb_tells b 61) in
    subst (λ (c : ℕ). IsOrdinary place (within tokens is_first bytes part Bare) c) (sym is)
    (subst (λ (f : Bool). IsOrdinary place (within tokens f bytes part Bare) 61)
    (sym (not_first is_first parts.1)) (equals_sign place tokens bytes part)))
    (cases_Bool (is_plain b))

bare_byte : (place : ℕ) (tokens : List TokenView) (is_first : Bool) (bytes : List ℕ) (part : Part) (b : ℕ)
    → is_bare_byte is_first b ≡ true → (b ≡ 37 → is_first ≡ true → bytes ≡ [] → ⊥)
    → IsOrdinary place (within tokens is_first bytes part Bare) b
bare_byte place tokens is_first bytes part b needs_none inside =
    ⊎_elim
    (λ (yes : ((b == 37) ≡ true) × (b ≡ 37)).
    subst (λ (c : ℕ). IsOrdinary place (within tokens is_first bytes part Bare) c) (sym yes.1)
    (percent_sign place tokens is_first bytes part (inside yes.1)))
    (λ (no : ((b == 37) ≡ false) × (b ≢ 37)).
    other_byte place tokens is_first bytes part b needs_none no.0)
    (eqb_tells b 37)

-- further bytes that need no quotes
bare_rest : (place : ℕ) (tokens : List TokenView) (is_first : Bool) (d : ℕ) (done bytes rest : List ℕ)
    → list_all (is_bare_byte is_first) bytes ≡ true
    → ReadsOn place (within tokens is_first (d ∷ done) Plain Bare) (bytes ++ rest)
    (within tokens is_first (d ∷ done ++ bytes) Plain Bare) rest
bare_rest place tokens is_first d done [] rest need_none =
    (place, ap (λ (w : List ℕ). read place (within tokens is_first (d ∷ w) Plain Bare) rest) (sym (append-nil done)))
bare_rest place tokens is_first d done (b ∷ bytes) rest need_none =
    let parts = and_parts (is_bare_byte is_first b) (list_all (is_bare_byte is_first) bytes) need_none in
    let next = bare_rest (suc place) tokens is_first d (done ++ b ∷ []) bytes rest parts.1 in (
      next.0,
      ap (λ (r : Result State SplitError). r >>= λ after. read (suc place) after (bytes ++ rest))
          (bare_byte place tokens is_first (d ∷ done) Plain b parts.0 (λ _ _ none. absurd (cc none)))
          ∙ next.1
          ∙ ap (λ (w : List ℕ). read next.0 (within tokens is_first (d ∷ w) Plain Bare) rest)
          (append_assoc done (b ∷ []) bytes),
    )

bare_word : (place : ℕ) (tokens : List TokenView) (is_first : Bool) (b : ℕ) (bytes rest : List ℕ)
    → list_all (is_bare_byte is_first) (b ∷ bytes) ≡ true → (b ≡ 37 → is_first ≡ true → ⊥)
    → ReadsOn place (within tokens is_first [] Gap Bare) (b ∷ bytes ++ rest)
    (within tokens is_first (b ∷ bytes) Plain Bare) rest
bare_word place tokens is_first b bytes rest need_none no_job =
    let parts = and_parts (is_bare_byte is_first b) (list_all (is_bare_byte is_first) bytes) need_none in
    let next = bare_rest (suc place) tokens is_first b [] bytes rest parts.1 in (
      next.0,
      ap (λ (r : Result State SplitError). r >>= λ after. read (suc place) after (bytes ++ rest))
          (bare_byte place tokens is_first [] Gap b parts.0 (λ is first _. no_job is first))
          ∙ next.1,
    )

both_ways : (b : Bool) → b ≡ true → not b ≡ true → ⊥
both_ways true is not_so = absurd (cc)
both_ways false is not_so = absurd (cc)

-- a first word that stands bare begins with no `%`
no_job : (is_first : Bool) (b : ℕ) (bytes : List ℕ)
    → not (is_first && (is_marked (b ∷ bytes) || is_reserved (b ∷ bytes))) ≡ true
    → b ≡ 37 → is_first ≡ true → ⊥
no_job false b bytes free is first = absurd (cc)
no_job true b bytes free is first =
    let marked : is_marked (b ∷ bytes) ≡ true =
    subst (λ (c : ℕ). is_marked (c ∷ bytes) ≡ true) (sym is) refl in
    both_ways (is_marked (b ∷ bytes) || is_reserved (b ∷ bytes))
    (ap (λ (m : Bool). m || is_reserved (b ∷ bytes)) marked) free

-- a byte in single quotes, other than one
between_quotes : (place at : ℕ) (tokens : List TokenView) (is_first : Bool) (done : List ℕ) (b : ℕ) (rest : List ℕ)
    → (b == 39) ≡ false
    → read place (within tokens is_first done Quoted (Single at)) (b ∷ rest)
    ≡ read (suc place) (within tokens is_first (done ++ b ∷ []) Quoted (Single at)) rest
between_quotes place at tokens is_first done b rest differs = rw (differs, single)

-- the rest of a word in single quotes
quoted_rest : (place at : ℕ) (tokens : List TokenView) (is_first : Bool) (done bytes rest : List ℕ)
    → ReadsOn place (within tokens is_first done Quoted (Single at)) (between bytes ++ rest)
    (within tokens is_first (done ++ bytes) Quoted Bare) rest
unfolding kind_of
quoted_rest place at tokens is_first done [] rest =
    (suc place, ap (λ (w : List ℕ). read (suc place) (within tokens is_first w Quoted Bare) rest) (sym (append-nil done)))
quoted_rest place at tokens is_first done (b ∷ bytes) rest =
    ⊎_elim
    (λ (yes : ((b == 39) ≡ true) × (b ≡ 39)).
    let next = quoted_rest (suc (suc (suc (suc place)))) (suc (suc (suc place))) tokens is_first (done ++ 39 ∷ []) bytes rest in
    subst (λ (c : ℕ). ReadsOn place (within tokens is_first done Quoted (Single at)) (between (c ∷ bytes) ++ rest)
    (within tokens is_first (done ++ c ∷ bytes) Quoted Bare) rest) (sym yes.1) (
      next.0,
      next.1 ∙ ap (λ (w : List ℕ). read next.0 (within tokens is_first w Quoted Bare) rest)
          (append_assoc done (39 ∷ []) bytes),
    ))
    (λ (no : ((b == 39) ≡ false) × (b ≢ 39)).
    let next = quoted_rest (suc place) at tokens is_first (done ++ b ∷ []) bytes rest in (
      next.0,
      ap (λ (bs : List ℕ). read place (within tokens is_first done Quoted (Single at)) (bs ++ rest))
          (between_one b bytes no.1)
          ∙ between_quotes place at tokens is_first done b (between bytes ++ rest) no.0
          ∙ next.1
          ∙ ap (λ (w : List ℕ). read next.0 (within tokens is_first w Quoted Bare) rest)
          (append_assoc done (b ∷ []) bytes),
    ))
    (eqb_tells b 39)

-- a word, with quotes or without
abbrev IsRead : ℕ → List TokenView → Bool → List ℕ → List ℕ → List ℕ → Type 0
IsRead place tokens is_first w text rest =
    ReadsOn place (within tokens is_first [] Gap Bare) (text ++ rest) (within tokens is_first w Plain Bare) rest
    ⊎ ReadsOn place (within tokens is_first [] Gap Bare) (text ++ rest) (within tokens is_first w Quoted Bare) rest

word_by : (place : ℕ) (tokens : List TokenView) (is_first : Bool) (w rest : List ℕ) (none : Bool)
    → is_bare is_first w ≡ none → IsRead place tokens is_first w (if none then w else 39 ∷ between w) rest
unfolding kind_of
word_by place tokens is_first [] rest true is = absurd (cc)
word_by place tokens is_first (b ∷ bytes) rest true is =
    let parts = and_parts (not (length (b ∷ bytes) == 0)) (has_no_quotes is_first (b ∷ bytes)) is in
    let need_none = and_parts (not (is_first && (is_marked (b ∷ bytes) || is_reserved (b ∷ bytes))))
    (list_all (is_bare_byte is_first) (b ∷ bytes)) parts.1 in
    inl (bare_word place tokens is_first b bytes rest need_none.1
    (no_job is_first b bytes need_none.0))
word_by place tokens is_first w rest false is = inr (quoted_rest (suc place) place tokens is_first [] w rest)

-- all words
all_read : (place : ℕ) (tokens : List TokenView) (is_first : Bool) (w : List ℕ) (words : List (List ℕ))
    → read place (within tokens is_first [] Gap Bare) (quoted is_first w ++ further words)
    ≡ Ok (tokens ++ map word (w ∷ words))
unfolding kind_of
all_read place tokens is_first w [] =
    ⊎_elim (λ r. r.1) (λ r. r.1) (word_by place tokens is_first w [] (is_bare is_first w) refl)
all_read place tokens is_first w (x ∷ words) =
    let more = 32 ∷ quoted false x ++ further words in
    let next : (there : ℕ) → read (suc there) (within (tokens ++ word w ∷ []) false [] Gap Bare) (quoted false x ++ further words)
    ≡ Ok (tokens ++ map word (w ∷ x ∷ words)) =
    λ there. all_read (suc there) (tokens ++ word w ∷ []) false x words
    ∙ ap (λ (ts : List TokenView). Ok ts) (append_assoc tokens (word w ∷ []) (map word (x ∷ words))) in
    ⊎_elim (λ r. r.1 ∙ next r.0) (λ r. r.1 ∙ next r.0)
    (word_by place tokens is_first w more (is_bare is_first w) refl)

pub round_trip : (words : List (List ℕ)) (text : List ℕ) → text ≡ quote_of words
    → split_of text ≡ Ok (map word words)
round_trip [] text same = ap split_of same
round_trip (w ∷ words) text same = ap split_of same ∙ all_read 0 [] true w words

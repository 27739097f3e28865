-- A character that takes several bytes is read byte by byte as it is read at once.
use Rattle.std.proofs.Common.{◌≡◌, ℕ, suc, ◌+◌, ◌≤◌, ◌<◌, Bool, true, false, cond, List, [], ◌∷◌, ◌++◌, length, Ok, Err, refl, sym, ap, subst, ◌∙◌, append_assoc, add-one, arith, ◌/◌, ⊎_elim, ◌≢◌, ◌==◌, nat_lt, Result}
use Rattle.std.proofs.lemmas.Bool.{cases_lt}
use Rattle.std.proofs.lemmas.Bool.Decides.{nat_tests}
use Rattle.std.proofs.lemmas.Str.{encode_ascii}
use Rattle.std.proofs.Math.Utf8.{encode, next}
use Rattle.duct_program.specs.Parsed.{◌>>=◌}
use Rattle.duct_words.specs.Quote.{between}
use Rattle.duct_words.specs.Split.{RefusesAs, State, TokenView, bare, kind_of, ordinary, pushed, read, step}
use Rattle.duct_words.specs.declared.error.SplitError.{SplitError}
use Rattle.duct_words.specs.declared.error.SplitError.TheVariants.{Unquoted, UnclosedQuote, LastBackslash, Memory}
use Rattle.duct_words.specs.declared.kind.Kind.TheVariants.{Ordinary}
use Rattle.duct_words.specs.declared.lexer.Part.{Part}
use Rattle.duct_words.specs.declared.lexer.Part.TheVariants.{Gap, Operator, Plain, Quoted}
use Rattle.duct_words.specs.declared.lexer.Mode.{Mode}
use Rattle.duct_words.specs.declared.lexer.Mode.TheVariants.{Bare, Escape, Single, Double, DoubleEscape}

-- no code past ASCII means anything to a shell
far_kind : (c : ℕ) → 128 ≤ c → kind_of c ≡ Ordinary
unfolding kind_of
far_kind c far = grind (arith, nat_tests)

-- after bytes past ASCII
abbrev after_far : State → List ℕ → State
after_far state bytes =
    elim state.mode [
      | Bare ↦ ordinary state bytes
      | Escape at ↦ record (pushed Bare state bytes) { part = Quoted }
      | Single at ↦ pushed state.mode state bytes
      | Double opened ↦ pushed state.mode state bytes
      | DoubleEscape opened ↦ pushed (Double opened) state (92 ∷ bytes)
    ]

far_step : (place : ℕ) (state : State) (mode : Mode) (c : ℕ) (bytes : List ℕ) → 128 ≤ c
    → step place (record state { mode = mode }) c bytes ≡ Ok (after_far (record state { mode = mode }) bytes)
far_step place state Bare c bytes far = rw (far_kind c far, bare)
far_step place state (Escape at) c bytes far = grind (arith, nat_tests)
far_step place state (Single at) c bytes far = grind (arith, nat_tests)
far_step place state (Double opened) c bytes far = grind (arith, nat_tests)
far_step place state (DoubleEscape opened) c bytes far = grind (arith, nat_tests)

-- bytes past ASCII one after the other
after_both : (state : State) (part : Part) (mode : Mode) (b : ℕ) (bytes : List ℕ)
    → let here = record state { part = part; mode = mode } in
    after_far (after_far here (b ∷ [])) bytes ≡ after_far here (b ∷ bytes)
after_both state Gap Bare b bytes = simp append_assoc
after_both state Operator Bare b bytes = simp append_assoc
after_both state Plain Bare b bytes = simp append_assoc
after_both state Quoted Bare b bytes = simp append_assoc
after_both state part (Escape at) b bytes = simp append_assoc
after_both state part (Single at) b bytes = simp append_assoc
after_both state part (Double opened) b bytes = simp append_assoc
after_both state part (DoubleEscape opened) b bytes = simp append_assoc

-- all bytes are past ASCII
abbrev pub AllFar : List ℕ → Type 0
AllFar [] = Unit {0}
AllFar (b ∷ bytes) = (128 ≤ b) × AllFar bytes

-- bytes past ASCII, of which there are some, are read one after the other
far_bytes : (place : ℕ) (state : State) (b : ℕ) (bytes rest : List ℕ) → AllFar (b ∷ bytes)
    → read place state (b ∷ bytes ++ rest) ≡ read (place + length (b ∷ bytes)) (after_far state (b ∷ bytes)) rest
far_bytes place state b [] rest far =
    ap (λ (r : Result State SplitError). r >>= λ after. read (suc place) after rest)
    (far_step place state state.mode b (b ∷ []) far.0)
    ∙ ap (λ (n : ℕ). read n (after_far state (b ∷ [])) rest) (sym (add-one place))
far_bytes place state b (c ∷ bytes) rest far =
    let further : suc place + length (c ∷ bytes) ≡ place + length (b ∷ c ∷ bytes) = omega arith in
    ap (λ (r : Result State SplitError). r >>= λ after. read (suc place) after (c ∷ bytes ++ rest))
    (far_step place state state.mode b (b ∷ []) far.0)
    ∙ far_bytes (suc place) (after_far state (b ∷ [])) c bytes rest far.1
    ∙ ap (λ (n : ℕ). read n (after_far (after_far state (b ∷ [])) (c ∷ bytes)) rest) further
    ∙ ap (λ (s : State). read (place + length (b ∷ c ∷ bytes)) s rest)
    (after_both state state.part state.mode b (c ∷ bytes))

-- some bytes past ASCII
abbrev pub IsFar : List ℕ → Type 0
IsFar bytes = (b : ℕ) × (rest : List ℕ) × (bytes ≡ b ∷ rest) × AllFar (b ∷ rest)

far_cases : (low two three : Bool) (c : ℕ) → low ≡ false → IsFar (cond low (c ∷ [])
    (cond two ((192 + c / 64) ∷ next c ∷ [])
    (cond three ((224 + c / 4096) ∷ next (c / 64) ∷ next c ∷ [])
    ((240 + c / 262144) ∷ next (c / 4096) ∷ next (c / 64) ∷ next c ∷ []))))
far_cases true two three c far = absurd (cc)
far_cases false true three c far = (192 + c / 64, next c ∷ [], refl, (omega arith, (omega arith, tt)))
far_cases false false true c far =
    (224 + c / 4096, next (c / 64) ∷ next c ∷ [], refl, (omega arith, (omega arith, (omega arith, tt))))
far_cases false false false c far = (
  240 + c / 262144,
  next (c / 4096) ∷ next (c / 64) ∷ next c ∷ [],
  refl,
  (omega arith, (omega arith, (omega arith, (omega arith, tt)))),
)

-- the bytes of a character past ASCII
pub far_encode : (c : ℕ) → 128 ≤ c → IsFar (encode c)
unfolding encode
far_encode c far =
    let high : nat_lt c 128 ≡ false = grind (arith, nat_tests) in
    far_cases (nat_lt c 128) (nat_lt c 2048) (nat_lt c 65536) c high

-- a character is read at once
abbrev pub ReadAtOnce : ℕ → State → ℕ → List ℕ → List ℕ → Type 0
ReadAtOnce place state c bytes rest =
    read place state (bytes ++ rest)
    ≡ (step place state c bytes >>= λ after. read (place + length bytes) after rest)

at_once_near : (place : ℕ) (state : State) (c : ℕ) (rest : List ℕ)
    → ReadAtOnce place state c (c ∷ []) rest
at_once_near place state c rest =
    ap (λ (n : ℕ). step place state c (c ∷ []) >>= λ after. read n after rest) (sym (add-one place))

at_once_far : (place : ℕ) (state : State) (c b : ℕ) (bytes rest : List ℕ) → 128 ≤ c
    → AllFar (b ∷ bytes) → ReadAtOnce place state c (b ∷ bytes) rest
at_once_far place state c b bytes rest far all =
    far_bytes place state b bytes rest all
    ∙ ap (λ (r : Result State SplitError). r >>= λ after. read (place + length (b ∷ bytes)) after rest)
    (sym (far_step place state state.mode c (b ∷ bytes) far))

at_once : (place : ℕ) (state : State) (c : ℕ) (rest : List ℕ)
    → ReadAtOnce place state c (encode c) rest
at_once place state c rest =
    ⊎_elim
    (λ (low : c < 128). subst (λ (bytes : List ℕ). ReadAtOnce place state c bytes rest)
    (sym (encode_ascii c low)) (at_once_near place state c rest))
    (λ (far : 128 ≤ c). let bytes = far_encode c far in
    subst (λ (bs : List ℕ). ReadAtOnce place state c bs rest) (sym bytes.2)
    (at_once_far place state c bytes.0 bytes.1 rest far bytes.3))
    (cases_lt c 128)

module _ (place : ℕ) (state : State) (c : ℕ) (rest bytes : List ℕ) (at : ℕ) (here : place ≡ at)
    (same : bytes ≡ encode c ++ rest) (whole : Result (List TokenView) SplitError)
    (invariant : read at state bytes ≡ whole) where
  stepped : (r : Result State SplitError) → step place state c (encode c) ≡ r
      → (r >>= λ after. read (place + length (encode c)) after rest) ≡ whole
  stepped r went =
      ap (λ (r : Result State SplitError). r >>= λ after. read (place + length (encode c)) after rest) (sym went)
      ∙ sym (at_once place state c rest)
      ∙ ap (λ (bs : List ℕ). read place state bs) (sym same)
      ∙ ap (λ (n : ℕ). read n state bytes) here
      ∙ invariant

  -- what is read after a character that was read
  pub read_on : (after : State) (next : ℕ) → next ≡ at + length (encode c)
      → step place state c (encode c) ≡ Ok after → read next after rest ≡ whole
  read_on after next further went =
      let there : next ≡ place + length (encode c) = omega arith in
      ap (λ (n : ℕ). read n after rest) there ∙ stepped (Ok after) went

  -- a character that is refused
  pub refused : (error : SplitError) → RefusesAs error (step place state c (encode c))
      → RefusesAs error whole
  refused (Unquoted character at_place) went = sym (stepped (Err (Unquoted character at_place)) went)
  refused (UnclosedQuote at_place) went = sym (stepped (Err (UnclosedQuote at_place)) went)
  refused (LastBackslash at_place) went = sym (stepped (Err (LastBackslash at_place)) went)
  refused Memory went = tt

pub between_one : (b : ℕ) (rest : List ℕ) → b ≢ 39 → between (b ∷ rest) ≡ b ∷ between rest
between_one b rest other =
    let differs : (b == 39) ≡ false = grind (arith, nat_tests) in rw (differs, between)

-- a text in which all bytes but one of ASCII stand as they are
module _ (text_of : List ℕ → List ℕ) (mark : ℕ) (low : mark < 128)
    (one : (b : ℕ) (rest : List ℕ) → b ≢ mark → text_of (b ∷ rest) ≡ b ∷ text_of rest) where
  all_far : (bytes rest : List ℕ) → AllFar bytes → text_of (bytes ++ rest) ≡ bytes ++ text_of rest
  all_far [] rest far = refl
  all_far (b ∷ bytes) rest far =
      let other : b ≢ mark = λ (is : b ≡ mark). omega (arith, far.0) in
      one b (bytes ++ rest) other ∙ ap (λ (more : List ℕ). b ∷ more) (all_far bytes rest far.1)

  -- another character is written at once
  written_at_once : (c : ℕ) (rest : List ℕ) → c ≢ mark
      → text_of (encode c ++ rest) ≡ encode c ++ text_of rest
  written_at_once c rest other =
      ⊎_elim
      (λ (low : c < 128). subst (λ (bytes : List ℕ). text_of (bytes ++ rest) ≡ bytes ++ text_of rest)
      (sym (encode_ascii c low)) (one c rest other))
      (λ (far : 128 ≤ c). let bytes = far_encode c far in
      subst (λ (bs : List ℕ). text_of (bs ++ rest) ≡ bs ++ text_of rest) (sym bytes.2)
      (all_far (bytes.0 ∷ bytes.1) rest bytes.3))
      (cases_lt c 128)

  -- a character that is written
  pub added : (old new whole rest : List ℕ) (bytes : List ℕ) (c : ℕ) → c ≢ mark → bytes ≡ encode c ++ rest
      → new ≡ old ++ encode c → old ++ text_of bytes ≡ whole → new ++ text_of rest ≡ whole
  added old new whole rest bytes c other same written before =
      ap (λ (bs : List ℕ). bs ++ text_of rest) written
      ∙ append_assoc old (encode c) (text_of rest)
      ∙ ap (λ (bs : List ℕ). old ++ bs) (sym (written_at_once c rest other) ∙ ap text_of (sym same))
      ∙ before

-- Whole lines of bytes, and a last part, as all lines of them; and the lines of two streams.
use Rattle.std.proofs.Common.{◌≡◌, ◌<◌, ◌≤◌, ◌+◌, ◌==◌, true, false, zero, suc, slice_index_or, take-add, ℕ, Bool, List, [], ◌∷◌, ◌++◌, length, map, refl, ap, subst, sym, ◌∙◌, if◌then◌else◌, take, drop, arith, Option}
use Rattle.std.proofs.lemmas.List.{drop-append-le, drop-drop, length-append, take-append-le, length-drop, append_assoc, append-nil, map-append, take-append-drop}
use Rattle.std.proofs.lemmas.List.Folds.{concat-append}
use Rattle.std.proofs.KnownBytes.{Consumes-trans}
use Rattle.std.specs.Io.KnownBytes.{Consumes}
use Rattle.std.specs.List.{FoldsTo, concat}
use Rattle.std.specs.Io.BufRead.{drop_through, take_through}
use Rattle.duct_system.specs.declared.system.Side.{Side}
use Rattle.duct_system.specs.declared.system.Side.TheVariants as side
use Rattle.duct_tasks.specs.Streams.{AreLines, AreWhole, HandsBoth, HandsRest, HandsWhole, IsPart, IsWhole, Takes, Told, ToldBoth, Turns, texts_of, without_end}

pub part_append : (xs ys : List ℕ) → IsPart xs → IsPart ys → IsPart (xs ++ ys)
part_append [] ys p q = q
part_append (x ∷ xs) ys p q = (p.0, part_append xs ys p.1 q)

-- the first line, and what follows it
pub through : (front rest : List ℕ) → IsPart front
    → take_through 10 (front ++ 10 ∷ rest) ≡ front ++ 10 ∷ []
through [] rest p = refl
through (x ∷ front) rest p =
    ap (λ (b : Bool). if b then x ∷ [] else (x ∷ take_through 10 (front ++ 10 ∷ rest))) p.0
    ∙ ap (λ (l : List ℕ). x ∷ l) (through front rest p.1)

beyond : (front rest : List ℕ) → IsPart front → drop_through 10 (front ++ 10 ∷ rest) ≡ rest
beyond [] rest p = refl
beyond (x ∷ front) rest p =
    ap (λ (b : Bool). if b then (front ++ 10 ∷ rest) else drop_through 10 (front ++ 10 ∷ rest)) p.0
    ∙ beyond front rest p.1

part_through : (part : List ℕ) → IsPart part → take_through 10 part ≡ part
part_through [] p = refl
part_through (x ∷ part) p =
    ap (λ (b : Bool). if b then x ∷ [] else (x ∷ take_through 10 part)) p.0
    ∙ ap (λ (l : List ℕ). x ∷ l) (part_through part p.1)

part_beyond : (part : List ℕ) → IsPart part → drop_through 10 part ≡ []
part_beyond [] p = refl
part_beyond (x ∷ part) p =
    ap (λ (b : Bool). if b then part else drop_through 10 part) p.0 ∙ part_beyond part p.1

-- the first newline stands at this place
pub found : (bytes : List ℕ) (at : ℕ) → at < length bytes → IsPart (take at bytes)
    → slice_index_or bytes at 0 ≡ 10 → take (suc at) bytes ≡ take_through 10 bytes
found [] at there part is = absurd (omega (arith, there))
found (b ∷ bytes) zero there part is =
    subst (λ (n : ℕ). take 1 (n ∷ bytes) ≡ take_through 10 (n ∷ bytes)) (sym is) refl
found (b ∷ bytes) (suc at) there part is =
    ap (λ (l : List ℕ). b ∷ l) (found bytes at (omega (arith, there)) part.1 is)
    ∙ sym (ap (λ (t : Bool). if t then b ∷ [] else (b ∷ take_through 10 bytes)) part.0)

-- no newline stands at this place either
pub part_more : (bytes : List ℕ) (at : ℕ) → at < length bytes → IsPart (take at bytes)
    → (slice_index_or bytes at 0 == 10) ≡ false → IsPart (take (suc at) bytes)
part_more [] at there part is = absurd (omega (arith, there))
part_more (b ∷ bytes) zero there part is = (is, tt)
part_more (b ∷ bytes) (suc at) there part is =
    (part.0, part_more bytes at (omega (arith, there)) part.1 is)

through_length : (bytes : List ℕ) → length (take_through 10 bytes) ≤ length bytes
through_length [] = omega arith
through_length (b ∷ bytes) = by_head (b == 10) (through_length bytes) where
  by_head : (t : Bool) → length (take_through 10 bytes) ≤ length bytes
      → length (if t then b ∷ [] else (b ∷ take_through 10 bytes)) ≤ length (b ∷ bytes)
  by_head true shorter = omega arith
  by_head false shorter = omega (arith, shorter)

take_length : (bytes : List ℕ) → take (length (take_through 10 bytes)) bytes ≡ take_through 10 bytes
take_length [] = refl
take_length (b ∷ bytes) = by_head (b == 10) (take_length bytes) where
  by_head : (t : Bool) → take (length (take_through 10 bytes)) bytes ≡ take_through 10 bytes
      → take (length (if t then b ∷ [] else (b ∷ take_through 10 bytes))) (b ∷ bytes)
      ≡ (if t then b ∷ [] else (b ∷ take_through 10 bytes))
  by_head true same = refl
  by_head false same = ap (λ (l : List ℕ). b ∷ l) same

-- a line is no more than the bytes that it begins
pub line_fits : (bytes line : List ℕ) (told : ℕ) → told ≤ length bytes
    → line ≡ take_through 10 (drop told bytes) → told + length line ≤ length bytes
line_fits bytes line told fits is =
    omega (arith, fits, ap length is, through_length (drop told bytes), length-drop told bytes)

-- bytes of a reader, with those that were read since
pub taken_more : (first left left' : Option (List ℕ)) (old new : List ℕ) → Consumes first left old
    → Takes left left' old new → Consumes first left' new
taken_more first left left' old new gave takes =
    subst (λ (bytes : List ℕ). Consumes first left' bytes) (sym takes.1)
    (Consumes-trans first left left' old takes.0 gave takes.2)

pub still_fits : (told : ℕ) (old new added : List ℕ) → told ≤ length old → new ≡ old ++ added
    → told ≤ length new
still_fits told old new added fits is = omega (arith, fits, ap length is, length-append old added)

front_stays : (bytes bytes' : List ℕ) (told told' : ℕ) (added : List ℕ) → told ≤ length bytes
    → bytes' ≡ bytes ++ added → told' ≡ told → take told' bytes' ≡ take told bytes
front_stays bytes bytes' told told' added fits is same =
    ap (λ (n : ℕ). take n bytes') same ∙ ap (λ (l : List ℕ). take told l) is
    ∙ take-append-le told bytes added fits

some : (front rest : List ℕ) (x : ℕ) → front ++ x ∷ rest ≡ [] → ⊥
some [] rest x e = omega (arith, ap length e)
some (y ∷ front) rest x e = omega (arith, ap length e)

-- the text of a last line that has no newline, if there is one
abbrev last_text : List ℕ → List (List ℕ)
last_text [] = []
last_text (byte ∷ bytes) = without_end (byte ∷ bytes) ∷ []

pub lines_of : (lines : List (List ℕ)) (rest : List ℕ) → AreWhole lines → IsPart rest
    → AreLines (concat lines ++ rest) (map without_end lines ++ last_text rest)
lines_of [] [] whole part = refl
lines_of [] (byte ∷ bytes) whole part = (
  some [] bytes byte,
  ap without_end (sym (part_through (byte ∷ bytes) part)),
  part_beyond (byte ∷ bytes) part,
)
lines_of (line ∷ lines) rest ((front, before, is), whole) part =
    let more = concat lines ++ rest in
    let all : concat (line ∷ lines) ++ rest ≡ front ++ 10 ∷ more =
    append_assoc line (concat lines) rest ∙ ap (λ (l : List ℕ). l ++ more) is
    ∙ append_assoc front (10 ∷ []) more in
    let texts = map without_end lines ++ last_text rest in
    subst (λ (bytes : List ℕ). AreLines bytes (without_end line ∷ texts)) (sym all) (
      some front more 10,
      ap without_end (is ∙ sym (through front more before)),
      subst (λ (bytes : List ℕ). AreLines bytes texts) (sym (beyond front more before))
          (lines_of lines rest whole part),
    )

whole_append : (xs ys : List (List ℕ)) → AreWhole xs → AreWhole ys → AreWhole (xs ++ ys)
whole_append [] ys p q = q
whole_append (x ∷ xs) ys p q = (p.0, whole_append xs ys p.1 q)

texts_append : (stream : Side) (xs ys : List (Side × List ℕ))
    → texts_of stream (xs ++ ys) ≡ texts_of stream xs ++ texts_of stream ys
texts_append stream [] ys = refl
texts_append side.Out ((side.Out, text) ∷ xs) ys =
    ap (λ (l : List (List ℕ)). text ∷ l) (texts_append side.Out xs ys)
texts_append side.Out ((side.Err, text) ∷ xs) ys = texts_append side.Out xs ys
texts_append side.Err ((side.Out, text) ∷ xs) ys = texts_append side.Err xs ys
texts_append side.Err ((side.Err, text) ∷ xs) ys =
    ap (λ (l : List (List ℕ)). text ∷ l) (texts_append side.Err xs ys)

-- the other stream
abbrev other : Side → Side
other side.Out = side.Err
other side.Err = side.Out

texts_own : (stream : Side) (lines : List (List ℕ))
    → texts_of stream (map (λ line. (stream, without_end line)) lines) ≡ map without_end lines
texts_own side.Out [] = refl
texts_own side.Err [] = refl
texts_own side.Out (line ∷ lines) =
    ap (λ (l : List (List ℕ)). without_end line ∷ l) (texts_own side.Out lines)
texts_own side.Err (line ∷ lines) =
    ap (λ (l : List (List ℕ)). without_end line ∷ l) (texts_own side.Err lines)

texts_none : (stream : Side) (lines : List (List ℕ))
    → texts_of (other stream) (map (λ line. (stream, without_end line)) lines) ≡ []
texts_none side.Out [] = refl
texts_none side.Err [] = refl
texts_none side.Out (line ∷ lines) = texts_none side.Out lines
texts_none side.Err (line ∷ lines) = texts_none side.Err lines

module _ {F : Type 0} (Step : F → Side × List ℕ → F → Type 0) where
  folds_append : (f g h : F) (xs ys : List (Side × List ℕ)) → FoldsTo Step f xs g
      → FoldsTo Step g ys h → FoldsTo Step f (xs ++ ys) h
  folds_append f g h [] ys first second = subst (λ (k : F). FoldsTo Step k ys h) (sym first) second
  folds_append f g h (x ∷ xs) ys (k, step, first) second =
      (k, step, folds_append k g h xs ys first second)

  -- one more line was handed on
  pub hands_more : (stream : Side) (f g h : F) (bytes line : List ℕ) (told : ℕ)
      → HandsWhole Step stream f (take told bytes) g → IsWhole line
      → line ≡ take_through 10 (drop told bytes) → Step g (stream, without_end line) h
      → HandsWhole Step stream f (take (told + length line) bytes) h
  hands_more stream f g h bytes line told (lines, whole, are, steps) is_whole is step = (
    lines ++ line ∷ [],
    whole_append lines (line ∷ []) whole (is_whole, tt),
    take-add told (length line) bytes
        ∙ ap (λ (l : List ℕ). take told bytes ++ l)
        (ap (λ (n : ℕ). take n (drop told bytes)) (ap length is) ∙ take_length (drop told bytes) ∙ sym is)
        ∙ ap (λ (l : List ℕ). l ++ line) are
        ∙ ap (λ (l : List ℕ). concat lines ++ l) (sym (append-nil line))
        ∙ sym (concat-append lines (line ∷ [])),
    subst (λ (more : List (Side × List ℕ)). FoldsTo Step f more h)
        (sym (map-append (λ (l : List ℕ). (stream, without_end l)) lines (line ∷ [])))
        (folds_append f g h (map (λ (l : List ℕ). (stream, without_end l)) lines)
        ((stream, without_end line) ∷ []) steps (h, step, refl)),
  )

  -- nothing was handed on of what was added
  pub turn_quiet : (stream : Side) (f : F) (bytes bytes' : List ℕ) (told told' : ℕ) (added : List ℕ)
      → told ≤ length bytes → bytes' ≡ bytes ++ added → told' ≡ told → IsPart added
      → Turns Step stream bytes told f bytes' told' f
  turn_quiet stream f bytes bytes' told told' added fits is same part = record {
    added = added;
    grows = is;
    lines = [];
    takes = front_stays bytes bytes' told told' added fits is same ∙ sym (append-nil (take told bytes));
    hands = ([], tt, refl, refl);
    rest = λ before. subst (λ (l : List ℕ). IsPart l)
        (sym (ap (λ (n : ℕ). drop n bytes') same ∙ ap (λ (l : List ℕ). drop told l) is
        ∙ drop-append-le told bytes added fits))
        (part_append (drop told bytes) added before part);
  }

  -- whole lines were handed on, up to a part of a line
  pub turn_told : (stream : Side) (f g : F) (bytes bytes' : List ℕ) (told told' more : ℕ)
      (added : List ℕ) → told ≤ length bytes → bytes' ≡ bytes ++ added → told' ≡ told
      → HandsWhole Step stream f (take more (drop told' bytes')) g
      → IsPart (drop more (drop told' bytes'))
      → Turns Step stream bytes told f bytes' (told' + more) g
  turn_told stream f g bytes bytes' told told' more added fits is same hands part = record {
    added = added;
    grows = is;
    lines = take more (drop told' bytes');
    takes = take-add told' more bytes'
        ∙ ap (λ (l : List ℕ). l ++ take more (drop told' bytes'))
        (front_stays bytes bytes' told told' added fits is same);
    hands = hands;
    rest = λ before. subst (λ (l : List ℕ). IsPart l)
        (drop-drop more told' bytes' ∙ ap (λ (n : ℕ). drop n bytes') (omega arith)) part;
  }

  -- after a turn of the stream
  told_more : (stream : Side) (handed more : List (Side × List ℕ)) (lines : List (List ℕ))
      (bytes bytes' : List ℕ) (told told' : ℕ) (taken : List ℕ) → Told Step stream handed bytes told
      → take told' bytes' ≡ take told bytes ++ taken → taken ≡ concat lines → AreWhole lines
      → (IsPart (drop told bytes) → IsPart (drop told' bytes'))
      → texts_of stream more ≡ map without_end lines → Told Step stream (handed ++ more) bytes' told'
  told_more stream handed more lines bytes bytes' told told' taken was takes are whole rest texts =
      record {
        lines = was.lines ++ lines;
        whole = whole_append was.lines lines was.whole whole;
        takes = takes ∙ ap (λ (l : List ℕ). l ++ taken) was.takes
            ∙ ap (λ (l : List ℕ). concat was.lines ++ l) are ∙ sym (concat-append was.lines lines);
        texts = texts_append stream handed more ∙ ap (λ l. l ++ texts_of stream more) was.texts
            ∙ ap (λ l. map without_end was.lines ++ l) texts
            ∙ sym (map-append without_end was.lines lines);
        rest = rest was.rest;
      }

  -- lines of the other stream change nothing
  told_same : (stream : Side) (handed more : List (Side × List ℕ)) (bytes : List ℕ) (told : ℕ)
      → Told Step stream handed bytes told → texts_of stream more ≡ []
      → Told Step stream (handed ++ more) bytes told
  told_same stream handed more bytes told was none = record {
    lines = was.lines;
    whole = was.whole;
    takes = was.takes;
    texts = texts_append stream handed more ∙ ap (λ l. texts_of stream handed ++ l) none
        ∙ append-nil (texts_of stream handed) ∙ was.texts;
    rest = was.rest;
  }

  pub none_told : (f : F) (out err : List ℕ) (told told_err : ℕ) → out ≡ [] → err ≡ []
      → told ≡ 0 → told_err ≡ 0 → ToldBoth Step f f out told err told_err
  none_told f out err told told_err no_out no_err zero_out zero_err = record {
    handed = [];
    steps = refl;
    output = none_of side.Out out told no_out zero_out;
    error = none_of side.Err err told_err no_err zero_err;
  } where
    none_of : (stream : Side) (bytes : List ℕ) (told : ℕ) → bytes ≡ [] → told ≡ 0
        → Told Step stream [] bytes told
    none_of stream bytes told is nothing = record {
      lines = [];
      whole = tt;
      takes = ap (λ (n : ℕ). take n bytes) nothing;
      texts = refl;
      rest = subst (λ (l : List ℕ). IsPart l) (sym (ap (λ (n : ℕ). drop n bytes) nothing ∙ is)) tt;
    }

  pub output_told : (f g h : F) (out out' err : List ℕ) (told told' told_err : ℕ)
      → ToldBoth Step f g out told err told_err → Turns Step side.Out out told g out' told' h
      → ToldBoth Step f h out' told' err told_err
  output_told f g h out out' err told told' told_err was turn =
      let lines = turn.hands.0 in
      let more = map (λ (line : List ℕ). (side.Out, without_end line)) lines in
      record {
        handed = was.handed ++ more;
        steps = folds_append f g h was.handed more was.steps turn.hands.3;
        output = told_more side.Out was.handed more lines out out' told told' turn.lines was.output
            turn.takes turn.hands.2 turn.hands.1 turn.rest (texts_own side.Out lines);
        error = told_same side.Err was.handed more err told_err was.error (texts_none side.Out lines);
      }

  pub error_told : (f g h : F) (out err err' : List ℕ) (told told_err told_err' : ℕ)
      → ToldBoth Step f g out told err told_err → Turns Step side.Err err told_err g err' told_err' h
      → ToldBoth Step f h out told err' told_err'
  error_told f g h out err err' told told_err told_err' was turn =
      let lines = turn.hands.0 in
      let more = map (λ (line : List ℕ). (side.Err, without_end line)) lines in
      record {
        handed = was.handed ++ more;
        steps = folds_append f g h was.handed more was.steps turn.hands.3;
        output = told_same side.Out was.handed more out told was.output (texts_none side.Err lines);
        error = told_more side.Err was.handed more lines err err' told_err told_err' turn.lines
            was.error turn.takes turn.hands.2 turn.hands.1 turn.rest (texts_own side.Err lines);
      }

  -- the lines of the rest of a stream
  abbrev rest_lines : Side → List ℕ → List (Side × List ℕ)
  rest_lines stream [] = []
  rest_lines stream (byte ∷ bytes) = (stream, without_end (byte ∷ bytes)) ∷ []

  rest_steps : (stream : Side) (f g : F) (rest : List ℕ) → HandsRest Step stream f rest g
      → FoldsTo Step f (rest_lines stream rest) g
  rest_steps stream f g [] is = sym is
  rest_steps stream f g (byte ∷ bytes) step = (g, step, refl)

  rest_texts : (stream : Side) (rest : List ℕ)
      → texts_of stream (rest_lines stream rest) ≡ last_text rest
  rest_texts stream [] = refl
  rest_texts side.Out (byte ∷ bytes) = refl
  rest_texts side.Err (byte ∷ bytes) = refl

  rest_none : (stream : Side) (rest : List ℕ)
      → texts_of (other stream) (rest_lines stream rest) ≡ []
  rest_none stream [] = refl
  rest_none side.Out (byte ∷ bytes) = refl
  rest_none side.Err (byte ∷ bytes) = refl

  -- all lines of a stream
  told_all : (stream : Side) (handed : List (Side × List ℕ)) (bytes : List ℕ) (told : ℕ)
      (texts : List (List ℕ)) → Told Step stream handed bytes told
      → texts ≡ texts_of stream handed ++ last_text (drop told bytes) → AreLines bytes texts
  told_all stream handed bytes told texts was are =
      let whole : bytes ≡ concat was.lines ++ drop told bytes =
      sym (take-append-drop told bytes) ∙ ap (λ (l : List ℕ). l ++ drop told bytes) was.takes in
      let all : texts ≡ map without_end was.lines ++ last_text (drop told bytes) =
      are ∙ ap (λ l. l ++ last_text (drop told bytes)) was.texts in
      rw (all) (subst (λ (b : List ℕ). AreLines b (map without_end was.lines ++ last_text (drop told bytes))) (sym whole)
      (lines_of was.lines (drop told bytes) was.whole was.rest))

  pub both_told : (f g h i : F) (out err : List ℕ) (told told_err : ℕ)
      → ToldBoth Step f g out told err told_err → HandsRest Step side.Out g (drop told out) h
      → HandsRest Step side.Err h (drop told_err err) i → HandsBoth Step f i out err
  both_told f g h i out err told told_err was output error =
      let outs = rest_lines side.Out (drop told out) in
      let errs = rest_lines side.Err (drop told_err err) in
      let lines = (was.handed ++ outs) ++ errs in
      record {
        lines = lines;
        handed = folds_append f h i (was.handed ++ outs) errs
            (folds_append f g h was.handed outs was.steps (rest_steps side.Out g h (drop told out) output))
            (rest_steps side.Err h i (drop told_err err) error);
        output = told_all side.Out was.handed out told (texts_of side.Out lines) was.output
            (texts_append side.Out (was.handed ++ outs) errs
            ∙ ap (λ l. texts_of side.Out (was.handed ++ outs) ++ l) (rest_none side.Err (drop told_err err))
            ∙ append-nil (texts_of side.Out (was.handed ++ outs))
            ∙ texts_append side.Out was.handed outs
            ∙ ap (λ l. texts_of side.Out was.handed ++ l) (rest_texts side.Out (drop told out)));
        error = told_all side.Err was.handed err told_err (texts_of side.Err lines) was.error
            (texts_append side.Err (was.handed ++ outs) errs
            ∙ ap (λ l. l ++ texts_of side.Err errs)
            (texts_append side.Err was.handed outs
            ∙ ap (λ l. texts_of side.Err was.handed ++ l) (rest_none side.Out (drop told out))
            ∙ append-nil (texts_of side.Err was.handed))
            ∙ ap (λ l. texts_of side.Err was.handed ++ l) (rest_texts side.Err (drop told_err err)));
      }

-- The lines of items, one behind the other, mean these items.
use Rattle.std.proofs.Common.{◌≡◌, ℕ, ◌+◌, ◌-◌, ◌==◌, List, [], ◌∷◌, ◌++◌, map, length, take, Bool, true, false, cond, if◌then◌else◌, Ok, Some, refl, ap, sym, subst, ◌∙◌, append_assoc, arith, All, slice_index, flat_map, append-nil}
use Rattle.std.specs.List.{slice_split, onto_first}
use Rattle.std.specs.Prelude.{⊤}
use Rattle.std.specs.Str.Lines.{lines, lines_of_parts, strip_carriage_return}
use Rattle.std.proofs.lemmas.Grind.{flat_map-append}
use Rattle.std.proofs.lemmas.List.Elements.{All-from_recursion}
use Rattle.std.proofs.lemmas.List.Splits.{slice_split_at}
use Rattle.serde_json.specs.Read.{read}
use Rattle.serde_json.specs.Written.{compact_text}
use Rattle.duct_system.specs.EntryView.{EntryView}
use Rattle.duct_system.specs.declared.system.ExitStatus.{ExitStatus}
use Rattle.duct_replay.specs.Lines.{IsWritable, ItemView, Noted, Ended, Read, item_data, item_text, AllRead, ReadsFirst, RecordedView, at_line, entries_read, entries_text, journal_meant, lines_meant, recorded_items, recorded_text, recording_meant, with_item, item_line}
use Rattle.duct_replay.specs.declared.write.Values.{Values}
use Rattle.duct_replay.specs.declared.write.Values.TheVariants.{Shown}
use Rattle.duct_replay.proofs.Line.{meant_again}
use Rattle.duct_replay.proofs.OneLine.{AreInside, IsInside, text_inside}
use Rattle.duct_replay.proofs.Shallow.{item_plain}

IsFilled : List (List ℕ) → Type 0
IsFilled [] = ⊥
IsFilled (part ∷ parts) = ⊤

split_filled : (rest : List ℕ) → IsFilled (slice_split (λ byte. byte == 10) rest)
unfolding IsFilled
split_filled [] = tt
split_filled (byte ∷ rest) = either (byte == 10) (slice_split (λ byte. byte == 10) rest)
  where
    either : (cut : Bool) (parts : List (List ℕ))
        → IsFilled (cond cut ([] ∷ parts) (onto_first byte parts))
    either true parts = tt
    either false [] = tt
    either false (part ∷ parts) = tt

line_before : (line : List ℕ) (parts : List (List ℕ)) → IsFilled parts
    → lines_of_parts (line ∷ parts) ≡ strip_carriage_return line ∷ lines_of_parts parts
unfolding IsFilled
line_before line [] filled = absurd filled
line_before line (part ∷ parts) filled = refl

last_inside : (line : List ℕ) → AreInside line
    → (slice_index line (length line - 1) == 13) ≡ false
last_inside [] inside = refl
last_inside (byte ∷ line) inside =
    let all : All IsInside (byte ∷ line) = All-from_recursion IsInside (byte ∷ line) inside in
    (all (length (byte ∷ line) - 1) 0 (omega arith)).no_return

stripped : (line : List ℕ) → AreInside line → strip_carriage_return line ≡ line
stripped line inside =
    ap (λ test. if test then take (length line - 1) line else line) (last_inside line inside)

first_line : (line rest : List ℕ) → AreInside line
    → lines ((line ++ 10 ∷ []) ++ rest) ≡ line ∷ lines rest
first_line line rest inside =
    let free : All (λ byte. (byte == 10) ≡ false) line = λ place other within. (All-from_recursion IsInside line inside place other within).no_newline in
    let cut : slice_split (λ byte. byte == 10) (line ++ 10 ∷ rest) ≡ line ∷ slice_split (λ byte. byte == 10) rest = slice_split_at (λ byte. byte == 10) line 10 rest free refl in
    ap lines (append_assoc line (10 ∷ []) rest)
    ∙ (ap lines_of_parts cut
    ∙ (line_before line (slice_split (λ byte. byte == 10) rest) (split_filled rest)
    ∙ ap (λ first. first ∷ lines rest) (stripped line inside)))

reads_first : (line : List ℕ) (item : ItemView) → AreInside line → item_line line ≡ Ok item
    → ReadsFirst (line ++ 10 ∷ []) item
reads_first line item inside is place rest =
    ap (lines_meant place) (first_line line rest inside)
    ∙ ap (λ read. at_line place read (lines_meant (place + 1) (lines rest))) is

-- the line that was written for an item is read first
pub item_reads : (values : Values) (item : ItemView) → IsWritable item → values ≡ Shown
    → read (compact_text (item_data values item)) ≡ Some (item_data values item)
    → ReadsFirst (item_text values item) item
unfolding item_text
item_reads values item writable shown is =
    let text = compact_text (item_data values item) in
    reads_first text item (text_inside (item_data values item) (item_plain values item).exact)
    (meant_again values item text writable shown is)

abbrev in_front : List ItemView → RecordedView → RecordedView
in_front [] recorded = recorded
in_front (item ∷ items) recorded = with_item item (in_front items recorded)

abbrev recorded_of : List EntryView → List (ℕ × ExitStatus) → List (ℕ × List ℕ) → RecordedView
recorded_of entries endings outputs =
    record { entries = entries; endings = endings; outputs = outputs }

lines_back : (values : Values) (items : List ItemView) → AllRead values items → (place : ℕ)
    → lines_meant place (lines (flat_map (item_text values) items))
    ≡ Ok (in_front items (recorded_of [] [] []))
lines_back values [] all place = refl
lines_back values (item ∷ items) all place =
    all.0 place (flat_map (item_text values) items)
    ∙ ap (at_line place (Ok item)) (lines_back values items all.1 (place + 1))

outputs_front : (outputs : List (ℕ × List ℕ))
    → in_front (map Read outputs) (recorded_of [] [] []) ≡ recorded_of [] [] outputs
outputs_front [] = refl
outputs_front (output ∷ outputs) = ap (with_item (Read output)) (outputs_front outputs)

endings_front : (endings : List (ℕ × ExitStatus)) (outputs : List (ℕ × List ℕ))
    → in_front (map Ended endings ++ map Read outputs) (recorded_of [] [] [])
    ≡ recorded_of [] endings outputs
endings_front [] outputs = outputs_front outputs
endings_front (ending ∷ endings) outputs =
    ap (with_item (Ended ending)) (endings_front endings outputs)

entries_front : (entries : List EntryView) (endings : List (ℕ × ExitStatus))
    (outputs : List (ℕ × List ℕ))
    → in_front (recorded_items (recorded_of entries endings outputs)) (recorded_of [] [] [])
    ≡ recorded_of entries endings outputs
entries_front [] endings outputs = endings_front endings outputs
entries_front (entry ∷ entries) endings outputs =
    ap (with_item (Noted entry)) (entries_front entries endings outputs)

-- the text of a recording means it
pub recording_back : (values : Values) (recorded : RecordedView) (text : List ℕ)
    → AllRead values (recorded_items recorded) → text ≡ recorded_text values recorded
    → recording_meant text ≡ Ok recorded
unfolding recording_meant
recording_back values recorded text all is =
    ap (λ bytes. lines_meant 1 (lines bytes)) is
    ∙ (lines_back values (recorded_items recorded) all 1
    ∙ ap Ok (entries_front recorded.entries recorded.endings recorded.outputs))

-- and that of a journal its entries
pub journal_back : (values : Values) (entries : List EntryView) (text : List ℕ)
    → AllRead values (map Noted entries) → text ≡ entries_text values entries
    → journal_meant text ≡ Ok entries
journal_back values entries text all is =
    let alone = sym (append-nil (map Noted entries)) in
    ap entries_read (recording_back values (recorded_of entries [] []) text
    (subst (AllRead values) alone all) (is ∙ ap (flat_map (item_text values)) alone))

-- each of two lists' items
all_joined : (values : Values) (items more : List ItemView) → AllRead values items
    → AllRead values more → AllRead values (items ++ more)
all_joined values [] more all also = also
all_joined values (item ∷ items) more all also = (all.0, all_joined values items more all.1 also)

pub map_map : {A B C : Type 0} (f : B → C) (g : A → B) (values : List A)
    → map (λ value. f (g value)) values ≡ map f (map g values)
map_map f g [] = refl
map_map f g (value ∷ values) = ap (λ more. f (g value) ∷ more) (map_map f g values)

module _ (values : Values) (recorded : RecordedView) (entries endings outputs : List ItemView)
    (entries_are : entries ≡ map Noted recorded.entries)
    (endings_are : endings ≡ map Ended recorded.endings)
    (outputs_are : outputs ≡ map Read recorded.outputs) where
  -- the lines of three lists, added to nothing
  pub all_written : (zero one two three : List ℕ) → zero ≡ []
      → one ≡ zero ++ flat_map (item_text values) entries
      → two ≡ one ++ flat_map (item_text values) endings
      → three ≡ two ++ flat_map (item_text values) outputs
      → three ≡ recorded_text values recorded
  all_written zero one two three none first second third =
      rw (third, second, first, none, ← entries_are, ← endings_are, ← outputs_are)
      (simp (flat_map-append, append_assoc))

  pub all_read : AllRead values entries → AllRead values endings → AllRead values outputs
      → AllRead values (recorded_items recorded)
  all_read one two three =
      rw (← entries_are, ← endings_are, ← outputs_are)
      (all_joined values entries (endings ++ outputs) one (all_joined values endings outputs two three))

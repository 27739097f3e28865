-- The origin of a number and the end at a place stay the same, whatever entries come later.
use Rattle.std.proofs.Common.{◌≡◌, ℕ, ◌+◌, List, [], ◌∷◌, ◌++◌, length, refl, ap, sym, ◌∙◌, arith, append_assoc, Ok, reverse, slice_get, slice_index, Some, ◌==◌, true, false, option_to_list, flat_map}
use Rattle.std.proofs.lemmas.Grind.{flat_map-append}
use Rattle.std.proofs.lemmas.List.{reverse-append, append-nil}
use Rattle.std.proofs.lemmas.List.Elements.{filter-append}
use Rattle.duct_system.specs.Ledger.{opened_numbers, opened_by, spent_numbers, spent_by, count_of}
use Rattle.duct_system.specs.EntryView.{EntryView, Pipe, OpenRead, Create, Duplicate, Parent}
use Rattle.duct_system.specs.Origin.{Lent, origin, origin_before}
use Rattle.duct_system.specs.Trace.{trace, is_traced}
use Rattle.duct_start.specs.Asked.{end_at}
use Rattle.duct_start.proofs.Counts.{count-append, count-cons, other_than}

pub opened_numbers-append : (xs ys : List EntryView) → opened_numbers (xs ++ ys) ≡ opened_numbers xs ++ opened_numbers ys
opened_numbers-append xs ys = flat_map-append opened_by xs ys

pub spent_numbers-append : (xs ys : List EntryView) → spent_numbers (xs ++ ys) ≡ spent_numbers xs ++ spent_numbers ys
spent_numbers-append xs ys = flat_map-append spent_by xs ys

pub trace-append : (xs ys : List EntryView) → trace (xs ++ ys) ≡ trace xs ++ trace ys
trace-append xs ys = filter-append is_traced xs ys

pub count_got-append : (n : ℕ) (xs ys : List EntryView)
    → count_of n (opened_numbers (xs ++ ys)) ≡ count_of n (opened_numbers xs) + count_of n (opened_numbers ys)
count_got-append n xs ys = ap (λ (l : List ℕ). count_of n l) (opened_numbers-append xs ys) ∙ count-append n (opened_numbers xs) (opened_numbers ys)

pub count_spent-append : (n : ℕ) (xs ys : List EntryView)
    → count_of n (spent_numbers (xs ++ ys)) ≡ count_of n (spent_numbers xs) + count_of n (spent_numbers ys)
count_spent-append n xs ys = ap (λ (l : List ℕ). count_of n l) (spent_numbers-append xs ys) ∙ count-append n (spent_numbers xs) (spent_numbers ys)

pub count_got-reverse : (n : ℕ) (xs : List EntryView)
    → count_of n (opened_numbers (reverse xs)) ≡ count_of n (opened_numbers xs)
count_got-reverse n [] = refl
count_got-reverse n (x ∷ xs) =
    let split : count_of n (opened_numbers (reverse (x ∷ xs))) ≡ count_of n (opened_numbers (reverse xs ++ x ∷ [])) = ap (λ (l : List EntryView). count_of n (opened_numbers l)) (reverse-append (x ∷ []) xs) in
    omega (arith, split, count_got-append n (reverse xs) (x ∷ []), count_got-append n (x ∷ []) xs, count_got-reverse n xs)

-- a number that none of these entries got has the origin that it had before them
skip : (n : ℕ) (entries before : List EntryView) → count_of n (opened_numbers entries) ≡ 0
    → origin_before (entries ++ before) n ≡ origin_before before n
skip n [] before none = refl
skip n (Pipe (Ok (reader, writer)) ∷ entries) before none =
    let r : (n == reader) ≡ false = other_than n reader (omega (arith, count-cons n reader (writer ∷ opened_numbers entries))) in
    let w : (n == writer) ≡ false = other_than n writer (omega (arith, count-cons n reader (writer ∷ opened_numbers entries), count-cons n writer (opened_numbers entries))) in
    let rest : count_of n (opened_numbers entries) ≡ 0 = omega (arith, count-cons n reader (writer ∷ opened_numbers entries), count-cons n writer (opened_numbers entries)) in
    rw (r, w) (skip n entries before rest)
skip n (OpenRead path (Ok end) ∷ entries) before none =
    let r : (n == end) ≡ false = other_than n end (omega (arith, count-cons n end (opened_numbers entries))) in
    let rest : count_of n (opened_numbers entries) ≡ 0 = omega (arith, count-cons n end (opened_numbers entries)) in
    rw r (skip n entries before rest)
skip n (Create path (Ok end) ∷ entries) before none =
    let r : (n == end) ≡ false = other_than n end (omega (arith, count-cons n end (opened_numbers entries))) in
    let rest : count_of n (opened_numbers entries) ≡ 0 = omega (arith, count-cons n end (opened_numbers entries)) in
    rw r (skip n entries before rest)
skip n (Parent side (Ok end) ∷ entries) before none =
    let r : (n == end) ≡ false = other_than n end (omega (arith, count-cons n end (opened_numbers entries))) in
    let rest : count_of n (opened_numbers entries) ≡ 0 = omega (arith, count-cons n end (opened_numbers entries)) in
    rw r (skip n entries before rest)
skip n (Duplicate lent (Ok end) ∷ entries) before none =
    let r : (n == end) ≡ false = other_than n end (omega (arith, count-cons n end (opened_numbers entries))) in
    let rest : count_of n (opened_numbers entries) ≡ 0 = omega (arith, count-cons n end (opened_numbers entries)) in
    rw r (skip n entries before rest)
skip n (entry ∷ entries) before none = skip n entries before none

-- a number that none of these entries got is that of a caller's end
pub lent_before : (n : ℕ) (entries : List EntryView) → count_of n (opened_numbers entries) ≡ 0
    → origin_before entries n ≡ Lent n
lent_before n entries none = ap (λ (l : List EntryView). origin_before l n) (sym (append-nil entries)) ∙ skip n entries [] none

-- a number that is not got later keeps its origin
pub origin_stays : (n : ℕ) (xs more : List EntryView) → count_of n (opened_numbers more) ≡ 0
    → origin (xs ++ more) n ≡ origin xs n
origin_stays n xs more none =
    ap (λ (l : List EntryView). origin_before l n) (reverse-append xs more) ∙ skip n (reverse more) (reverse xs) (count_got-reverse n more ∙ none)

-- a number that no entry got is that of a caller's end
pub origin_lent : (n : ℕ) (xs : List EntryView) → count_of n (opened_numbers xs) ≡ 0 → origin xs n ≡ Lent n
origin_lent n xs none = origin_stays n [] xs none

-- the origin just after an entry
pub origin-more : (n : ℕ) (xs : List EntryView) (entry : EntryView)
    → origin (xs ++ entry ∷ []) n ≡ origin_before (entry ∷ reverse xs) n
origin-more n xs entry = ap (λ (l : List EntryView). origin_before l n) (reverse-append xs (entry ∷ []))

slice_get_seam : (front : List EntryView) (entry : EntryView) (rest : List EntryView)
    → slice_get (front ++ entry ∷ rest) (length front) ≡ Some entry
slice_get_seam [] entry rest = refl
slice_get_seam (x ∷ front) entry rest = slice_get_seam front entry rest

-- the ends at the place of an entry that was added to the trace
pub end_at_seam : (xs : List EntryView) (entry : EntryView) (more : List EntryView)
    (which : ℕ) → is_traced entry ≡ true
    → end_at (trace ((xs ++ entry ∷ []) ++ more)) (length (trace xs)) which
    ≡ slice_index (opened_by entry) which
end_at_seam xs entry more which traced =
    let one : trace (entry ∷ []) ≡ entry ∷ [] = rw traced refl in
    let all : trace ((xs ++ entry ∷ []) ++ more) ≡ trace xs ++ entry ∷ trace more =
    trace-append (xs ++ entry ∷ []) more ∙ ap (λ (l : List EntryView). l ++ trace more) (trace-append xs (entry ∷ []) ∙ ap (λ (l : List EntryView). trace xs ++ l) one) ∙ append_assoc (trace xs) (entry ∷ []) (trace more) in
    ap (λ (l : List EntryView). end_at l (length (trace xs)) which) all
    ∙ ap (λ o. slice_index (flat_map opened_by (option_to_list o)) which) (slice_get_seam (trace xs) entry (trace more))
    ∙ ap (λ (l : List ℕ). slice_index l which) (append-nil (opened_by entry))

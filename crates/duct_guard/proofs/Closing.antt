-- Ends that are closed as far as there is room, stream by stream.
use Rattle.std.proofs.Common.{◌≡◌, refl, ap, sym, subst, ◌∙◌, arith, append_assoc, ◌+◌, ◌-◌, get_or, ℕ, zero, suc, List, [], ◌∷◌, ◌++◌, map, take, length, Ok, Err, IfErr, Result}
use Rattle.duct_guard.proofs.Common.{append-nil, map-append, length-map, EntryView, Close, JournalView, stream_of, end_of, ends_of, Fault, Stdio, AddsAll, ClosesFirst}
use Rattle.std.proofs.lemmas.List.{length-append}
use native.Mathlib.Nat.{sub-zero}
use Rattle.duct_system.specs.declared.system.Stdio.TheVariants.{Inherit, Null, End}

-- the first of two lists
take_both : (n : ℕ) (xs ys : List ℕ)
    → take n (xs ++ ys) ≡ take n xs ++ take (n - length xs) ys
take_both zero [] ys = refl
take_both zero (x ∷ xs) ys =
    let none : 0 - length (x ∷ xs) ≡ 0 = omega arith in ap (λ m. take m ys) (sym none)
take_both (suc n) [] ys = ap (λ m. take m ys) (sym (sub-zero (suc n)))
take_both (suc n) (x ∷ xs) ys =
    let less : suc n - length (x ∷ xs) ≡ n - length xs = omega arith in
    ap (λ l. x ∷ l) (take_both n xs ys) ∙ ap (λ m. x ∷ (take n xs ++ take m ys)) (sym less)

-- entries that are added after others
then_added : (first second : List EntryView) (given more : ℕ) (one two three : JournalView)
    → AddsAll first 0 given one two → AddsAll second 0 more two three
    → AddsAll (first ++ second) 0 (given + more) one three
then_added first second given more one two three some rest = record {
  entries_are = rw (rest.entries_are, some.entries_are) (append_assoc one.entries first second);
  added_is =
      let a = some.added_is in let b = rest.added_is in let both = length-append first second in
      omega (arith, a, b, both);
  next_grows = let a = some.next_grows in let b = rest.next_grows in omega (arith, a, b);
  room_is = let a = some.room_is in let b = rest.room_is in omega (arith, a, b);
}

-- ends that are closed after others, in what is left of the room
pub then_closes : (room : ℕ) (first second : List ℕ) (one two three : JournalView)
    → ClosesFirst room first one two → ClosesFirst (room - length first) second two three
    → ClosesFirst room (first ++ second) one three
then_closes room first second one two three some more =
    let front = take room first in
    let back = take (room - length first) second in
    rw (take_both room first second, map-append Close front back, length-append front back)
    (then_added (map Close front) (map Close back) (length front) (length back) one two three some more)

-- the numbers of the ends of some streams are the ends of the streams by their numbers
one_stream : {E : Type 0} (f : E → ℕ) (s : Stdio E) → end_of (stream_of f s) ≡ map f (end_of s)
one_stream f Inherit = refl
one_stream f Null = refl
one_stream f (End e) = refl

pub ends_numbered : {E : Type 0} (f : E → ℕ) (io : List (Stdio E))
    → ends_of (map (stream_of f) io) ≡ map f (ends_of io)
ends_numbered f [] = refl
ends_numbered f (s ∷ io) =
    (λ i. one_stream f s i ++ ends_numbered f io i) ∙ sym (map-append f (end_of s) (ends_of io))

pub streams_count : {E : Type 0} (f : E → ℕ) (io : List (Stdio E))
    → length (ends_of (map (stream_of f) io)) ≡ length (ends_of io)
streams_count f io = ap (λ l. length l) (ends_numbered f io) ∙ length-map (ends_of io) f

-- an array of three by its elements
pub three_are : {A : Type 0} (xs : List A) (a b c : A) → length xs ≡ 3 → a ≡ get_or xs 0 a
    → b ≡ get_or xs 1 b → c ≡ get_or xs 2 c → xs ≡ a ∷ b ∷ c ∷ []
three_are [] a b c count first second third = absurd (omega arith)
three_are (x ∷ []) a b c count first second third = absurd (omega arith)
three_are (x ∷ y ∷ []) a b c count first second third = absurd (omega arith)
three_are (x ∷ y ∷ z ∷ []) a b c count first second third = cc
three_are (x ∷ y ∷ z ∷ w ∷ xs) a b c count first second third = absurd (omega arith)

-- the ends of three streams, one stream after the other
pub three_close : {E : Type 0} (f : E → ℕ) (room : ℕ) (io : List (Stdio E)) (a b c : Stdio E)
    (left less : ℕ) (one two three four : JournalView) → left ≡ room - length (end_of a)
    → less ≡ left - length (end_of b) → ClosesFirst room (map f (end_of a)) one two
    → ClosesFirst left (map f (end_of b)) two three
    → ClosesFirst less (map f (end_of c)) three four → io ≡ a ∷ b ∷ c ∷ []
    → ClosesFirst room (map f (ends_of io)) one four
three_close f room io a b c left less one two three four is-left is-less first second third is =
    let ends : map f (ends_of (a ∷ b ∷ c ∷ [])) ≡ map f (end_of a) ++ (map f (end_of b) ++ map f (end_of c)) =
    map-append f (end_of a) (end_of b ++ (end_of c ++ []))
    ∙ ap (λ l. map f (end_of a) ++ l) (map-append f (end_of b) (end_of c ++ []) ∙ ap (λ l. map f (end_of b) ++ map f l) (append-nil (end_of c))) in
    let of-left : left ≡ room - length (map f (end_of a)) = is-left ∙ ap (λ n. room - n) (sym (length-map (end_of a) f)) in
    let of-less : less ≡ left - length (map f (end_of b)) = is-less ∙ ap (λ n. left - n) (sym (length-map (end_of b) f)) in
    let last : ClosesFirst (left - length (map f (end_of b))) (map f (end_of c)) three four =
    subst (λ n. ClosesFirst n (map f (end_of c)) three four) of-less third in
    let later : ClosesFirst left (map f (end_of b) ++ map f (end_of c)) two four =
    then_closes left (map f (end_of b)) (map f (end_of c)) two three four second last in
    let rest : ClosesFirst (room - length (map f (end_of a))) (map f (end_of b) ++ map f (end_of c)) two four =
    subst (λ n. ClosesFirst n (map f (end_of b) ++ map f (end_of c)) two four) of-left later in
    rw (is, ends) (then_closes room (map f (end_of a)) (map f (end_of b) ++ map f (end_of c)) one two four first rest)

-- no end was to be closed
pub nothing_closed : (room : ℕ) (numbers : List ℕ) (old new : JournalView) → new ≡ old
    → length numbers ≡ 0 → ClosesFirst room numbers old new
nothing_closed zero [] old new same none = rw same (record {
  entries_are = sym (append-nil old.entries);
  added_is = omega arith;
  next_grows = omega arith;
  room_is = omega arith;
})
nothing_closed (suc n) [] old new same none = rw same (record {
  entries_are = sym (append-nil old.entries);
  added_is = omega arith;
  next_grows = omega arith;
  room_is = omega arith;
})
nothing_closed room (x ∷ xs) old new same none = absurd (omega (arith, none))

-- a fact of any fault holds of the one that is returned
pub on_err : {T : Type 0} (result : Result T Fault) {P : Fault → Type 0} → ((fault : Fault) → P fault)
    → IfErr result P
on_err (Ok it) holds = tt
on_err (Err fault) holds = holds fault

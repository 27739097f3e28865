-- The stack of a run, as its vector grows and shrinks.
use Rattle.std.proofs.Common.{◌+◌, ◌≤◌, length-append, ◌≡◌, ℕ, ◌<◌, List, [], ◌∷◌, ◌++◌, length, ap, sym, ◌∙◌, subst, get_or, refl, arith, min, map, reverse, slice_get, Some, option_map, All, Result}
use Rattle.std.proofs.Math.Nat.{min-le_right}
use Rattle.duct_run.proofs.Common.{All-append, All-cons, All-nil, reverse-append, map-append, reverse-reverse, length-reverse, length-map, slice_get-get_or, slice_get-map, Feed, JobView, unpolled_job, JournalView, AddsNothing, GivesEnds, Fault, end_of, ends_of, stream_of, Port, Stdio, Inherit, Null, End, Action, PerStream, stack_after_ports, at_depth, port_end_count, stack_with_streams, resources_with_stack, port_streams, Allows, ResourcesView, stack_view, ActionSucceeds, many_ends, streams_view}
use Rattle.duct_run.proofs.Changing.{handed_long}
use Rattle.duct_run.proofs.Wires.{handed_taken}
use Rattle.duct_run.specs.declared.streams.Streams.{Streams}

module _ {E : Type 0} (f : E → ℕ) where
  pub pushed : (t u : List E) (x : E) → u ≡ t ++ x ∷ []
      → stack_view f u ≡ f x ∷ stack_view f t
  pushed t u x is = ap (λ l. stack_view f l) is ∙ ap (λ l. reverse l) (map-append f t (x ∷ [])) ∙ reverse-append (map f t) (f x ∷ [])

  pub pushed_two : (t u v : List E) (x y : E) → u ≡ t ++ x ∷ [] → v ≡ u ++ y ∷ []
      → stack_view f v ≡ f y ∷ f x ∷ stack_view f t
  pushed_two t u v x y one two = pushed u v y two ∙ ap (λ (l : List ℕ). f y ∷ l) (pushed t u x one)

  -- the item at an index of the vector is at that depth of the stack
  pub item_at_depth : (t : List E) (n : ℕ) (x d : E) → n < length t → x ≡ get_or t n d
      → at_depth (stack_view f t) n ≡ Some (f x)
  item_at_depth t n x d within is =
      ap (λ l. slice_get l n) (reverse-reverse (map f t)) ∙ slice_get-map f t n ∙ ap (λ o. option_map f o) (slice_get-get_or t n d within) ∙ ap (λ y. Some (f y)) (sym is)

  pub pushed_number : (t u : List E) (x : E) → u ≡ t ++ x ∷ [] → map f u ≡ map f t ++ f x ∷ []
  pushed_number t u x is = ap (λ (l : List E). map f l) is ∙ map-append f t (x ∷ [])

  pub length_stack : (t : List E) → length (stack_view f t) ≡ length t
  length_stack t = length-reverse (map f t) ∙ length-map t f

-- the same stack in another form
pub goes_over : {E H : Type 0} (allows : Allows H) (number_of : E → ℕ) (act : Action E H)
    (now next : JournalView) (held : ResourcesView) (s t : List ℕ) → t ≡ s
    → ActionSucceeds allows number_of act now next held (resources_with_stack s held)
    → ActionSucceeds allows number_of act now next held (resources_with_stack t held)
goes_over allows number_of act now next held s t is goes = subst (λ l. ActionSucceeds allows number_of act now next held (resources_with_stack l held)) (sym is) goes

-- the same holdings in another form
pub goes_as : {E H : Type 0} (allows : Allows H) (number_of : E → ℕ) (act : Action E H)
    (now next : JournalView) (held kept other : ResourcesView) → other ≡ kept
    → ActionSucceeds allows number_of act now next held kept
    → ActionSucceeds allows number_of act now next held other
goes_as allows number_of act now next held kept other is goes = subst (λ l. ActionSucceeds allows number_of act now next held l) (sym is) goes

-- a property of all items of a list, for the list with one more item
pub all_pushed : {A : Type 0} (P : A → Type 0) (t u : List A) (x : A) → u ≡ t ++ x ∷ []
    → All P t → P x → All P u
all_pushed P t u x is all one = subst (λ l. All P l) (sym is) (All-append P t (x ∷ []) all (All-cons P x [] one (All-nil P)))

-- no request was made
pub still : (now : JournalView) → AddsNothing now now
still now = record { entries_are = refl; added_is = refl; next_grows = omega arith; room_grows = omega arith }

-- the same bytes in another form
pub as_bytes : (n : ℕ) (given bytes : List ℕ) (answer : Result (Unit {0}) Fault)
    (now next : JournalView) → given ≡ bytes → GivesEnds (Feed n given answer) 1 now next
    → GivesEnds (Feed n bytes answer) 1 now next
as_bytes n given bytes answer now next is gives = subst (λ (l : List ℕ). GivesEnds (Feed n l answer) 1 now next) is gives

-- a job with the view of an unpolled job of some number has that number
pub unpolled_same : {V : Type 0} (view : JobView V) (n : ℕ) → view ≡ unpolled_job n
    → view ≡ unpolled_job view.number
unpolled_same {V} view n is = is ∙ ap (λ (v : JobView V). unpolled_job v.number) (sym is)

long_stream : {E F : Type 0} (f : E → F) (stream : Stdio E)
    → length (end_of (stream_of f stream)) ≡ length (end_of stream)
long_stream f Inherit = refl
long_stream f Null = refl
long_stream f (End e) = refl

-- three streams have as many ends as their views have numbers
pub many_as : {E : Type 0} (f : E → ℕ) (s : Streams E)
    → length (end_of (stream_of f s.input)) + (length (end_of (stream_of f s.output))
    + length (end_of (stream_of f s.error))) ≡ many_ends s
many_as f s = omega (arith, long_stream f s.input, long_stream f s.output, long_stream f s.error)

-- the ends that three ports take were on the stack
pub hand_fits : {E : Type 0} (f : E → ℕ) (s : Streams E) (ports : PerStream Port) (stack : List ℕ)
    → port_end_count ports.input + (port_end_count ports.output + port_end_count ports.error) ≤ length stack
    → streams_view f s ≡ port_streams ports stack → many_ends s ≤ length stack
hand_fits f s ports stack full is =
    let all : length (stack_with_streams (streams_view f s) (stack_after_ports ports stack)) ≡ length stack = ap (λ (t : PerStream (Stdio ℕ)). length (stack_with_streams t (stack_after_ports ports stack))) is ∙ ap (λ l. length l) (handed_taken ports stack full) in
    omega (arith, all, handed_long (streams_view f s) (stack_after_ports ports stack), many_as f s)

-- the number of ends of a spawn
pub many_given : {E : Type 0} (f : E → ℕ) (s : Streams E)
    → length (ends_of (s.input ∷ s.output ∷ s.error ∷ [])) ≡ many_ends s
many_given f s =
    omega (arith, length-append (end_of s.input) (end_of s.output ++ (end_of s.error ++ [])), length-append (end_of s.output) (end_of s.error ++ []), length-append (end_of s.error) [])

pub many_spent : {E : Type 0} (f : E → ℕ) (s : Streams E)
    → length (ends_of (s.input ∷ s.output ∷ s.error ∷ []))
    ≡ length (ends_of (stream_of f s.input ∷ stream_of f s.output ∷ stream_of f s.error ∷ []))
many_spent f s =
    let i = end_of (stream_of f s.input) in
    let o = end_of (stream_of f s.output) in
    let e = end_of (stream_of f s.error) in
    omega (arith, many_given f s, many_as f s, length-append i (o ++ (e ++ [])), length-append o (e ++ []), length-append e [])

pub min_fits : (n room : ℕ) → n ≤ room → min 1 n ≤ room
min_fits n room le = omega (arith, min-le_right 1 n, le)

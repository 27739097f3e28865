-- Streams given by their targets, turned into streams given by the origins of a trace.
use Rattle.std.proofs.Common.{◌≡◌, ℕ, ◌+◌, ◌≤◌, List, [], ◌∷◌, ◌++◌, length, refl, ap, ◌∙◌, arith, Some, map, unwrap_or}
use Rattle.duct_run.proofs.Common.{EntryView, Origin, Opened, end_of, stream_of, Port, Stream, In, Inherit, Null, End, Scope, PerStream, surroundings_by, stream_target, stack_after_ports, stack_after_port, port_end_count, port_in, origin_to, port_to, stream_to, streams_to, AreAlike, IsAlike, stack_with_streams, port_stream, port_streams, Target, target_of, Parents, Nothing, ReaderAt, WriterAt, FileAt, Lends}
use Rattle.duct_system.specs.declared.spec.Port.TheVariants as port
use Rattle.duct_system.specs.declared.spec.Stream.TheVariants.{Out, Err}

-- what a port takes of a stack, put back on what it leaves, is the stack
taken_less : {A : Type 0} (p : Port) (stack : List A) → port_end_count p ≤ length stack
    → end_of (port_stream p stack) ++ stack_after_port p stack ≡ stack
taken_less port.Inherit stack full = refl
taken_less port.Null stack full = refl
taken_less port.Given [] full = absurd (omega (arith, full))
taken_less port.Given (x ∷ stack) full = refl
taken_less (port.Place place) stack full = refl

pub less_long : {A : Type 0} (p : Port) (stack : List A) → port_end_count p ≤ length stack
    → length (stack_after_port p stack) + port_end_count p ≡ length stack
less_long port.Inherit stack full = omega arith
less_long port.Null stack full = omega arith
less_long port.Given [] full = absurd (omega (arith, full))
less_long port.Given (x ∷ stack) full = omega arith
less_long (port.Place place) stack full = omega arith

module _ {A : Type 0} (ports : PerStream Port) (stack : List A) (full : port_end_count ports.input + (port_end_count ports.output + port_end_count ports.error) ≤ length stack) where
  full_output : port_end_count ports.output ≤ length (stack_after_port ports.error stack)
  full_output = let le : port_end_count ports.error ≤ length stack = omega (arith, full) in omega (arith, full, less_long ports.error stack le)

  full_input : port_end_count ports.input ≤ length (stack_after_port ports.output (stack_after_port ports.error stack))
  full_input =
      let le : port_end_count ports.error ≤ length stack = omega (arith, full) in
      omega (arith, full, less_long ports.error stack le, less_long ports.output (stack_after_port ports.error stack) full_output)

  -- what three ports take of a stack, put back on what they leave, is the stack
  pub handed_taken : stack_with_streams (port_streams ports stack) (stack_after_ports ports stack) ≡ stack
  handed_taken =
      let le : port_end_count ports.error ≤ length stack = omega (arith, full) in
      ap (λ l. end_of (port_stream ports.error stack) ++ (end_of (port_stream ports.output (stack_after_port ports.error stack)) ++ l)) (taken_less ports.input (stack_after_port ports.output (stack_after_port ports.error stack)) full_input)
      ∙ ap (λ l. end_of (port_stream ports.error stack) ++ l) (taken_less ports.output (stack_after_port ports.error stack) full_output) ∙ taken_less ports.error stack le

alike_taken : {E : Type 0} (p : Port) (numbers : List ℕ) (targets : List (Target E))
    → length numbers ≡ length targets → IsAlike (port_stream p numbers) (port_stream p targets)
alike_taken port.Inherit numbers targets same = tt
alike_taken port.Null numbers targets same = tt
alike_taken (port.Place place) numbers targets same = tt
alike_taken port.Given [] [] same = tt
alike_taken port.Given [] (t ∷ targets) same = absurd (omega (arith, same))
alike_taken port.Given (n ∷ numbers) [] same = absurd (omega (arith, same))
alike_taken port.Given (n ∷ numbers) (t ∷ targets) same = tt

less_same : {A B : Type 0} (p : Port) (xs : List A) (ys : List B) → length xs ≡ length ys
    → length (stack_after_port p xs) ≡ length (stack_after_port p ys)
less_same port.Inherit xs ys same = same
less_same port.Null xs ys same = same
less_same (port.Place place) xs ys same = same
less_same port.Given [] [] same = refl
less_same port.Given [] (y ∷ ys) same = absurd (omega (arith, same))
less_same port.Given (x ∷ xs) [] same = absurd (omega (arith, same))
less_same port.Given (x ∷ xs) (y ∷ ys) same = omega (arith, same)

pub alike_by : {E : Type 0} (ports : PerStream Port) (numbers : List ℕ) (targets : List (Target E))
    → length numbers ≡ length targets
    → AreAlike (port_streams ports numbers) (port_streams ports targets)
alike_by ports numbers targets same =
    let one = less_same ports.error numbers targets same in
    let two = less_same ports.output (stack_after_port ports.error numbers) (stack_after_port ports.error targets) one in
    record {
      input = alike_taken ports.input (stack_after_port ports.output (stack_after_port ports.error numbers)) (stack_after_port ports.output (stack_after_port ports.error targets)) two;
      output = alike_taken ports.output (stack_after_port ports.error numbers) (stack_after_port ports.error targets) one;
      error = alike_taken ports.error numbers targets same;
    }

module _ {E : Type 0} (entries : List EntryView) (number_of : E → ℕ) where
  -- the origin of a target, by the numbers of a trace
  abbrev pub origin_of : Target E → Origin
  origin_of target = unwrap_or (origin_to entries number_of target) (Opened 0)

  -- a stream that is given the top of the stack goes where the top comes from
  given_top : (s : Stream) (t : Target E) (o : Origin) → port.Given ≡ port_to s t
      → Some o ≡ origin_to entries number_of t → End (origin_of t) ≡ stream_to entries number_of s t
  given_top s t o is from = rw (← is, ← from) refl

  inherits : (s : Stream) → Inherit ≡ stream_to entries number_of s (Parents s)
  inherits In = refl
  inherits Out = refl
  inherits Err = refl

  nulls : (s : Stream) → Null ≡ stream_to {E = E} entries number_of s Nothing
  nulls In = refl
  nulls Out = refl
  nulls Err = refl

  not_place : (s : Stream) (place : ℕ) (t : Target E) → port.Place place ≡ port_to s t → ⊥
  not_place In place (Parents In) is = cc
  not_place Out place (Parents Out) is = cc
  not_place Err place (Parents Err) is = cc
  not_place In place (Parents Out) is = cc
  not_place In place (Parents Err) is = cc
  not_place Out place (Parents In) is = cc
  not_place Out place (Parents Err) is = cc
  not_place Err place (Parents In) is = cc
  not_place Err place (Parents Out) is = cc
  not_place In place Nothing is = cc
  not_place Out place Nothing is = cc
  not_place Err place Nothing is = cc
  not_place In place (ReaderAt k) is = cc
  not_place Out place (ReaderAt k) is = cc
  not_place Err place (ReaderAt k) is = cc
  not_place In place (WriterAt k) is = cc
  not_place Out place (WriterAt k) is = cc
  not_place Err place (WriterAt k) is = cc
  not_place In place (FileAt k) is = cc
  not_place Out place (FileAt k) is = cc
  not_place Err place (FileAt k) is = cc
  not_place In place (Lends e) is = cc
  not_place Out place (Lends e) is = cc
  not_place Err place (Lends e) is = cc

  -- a stream that is taken by its port goes to its target
  stream_taken : (s : Stream) (p : Port) (numbers : List Origin) (stack : List (Target E))
      → port_end_count p ≤ length stack → map (λ o. Some o) numbers ≡ map
      (origin_to entries number_of) stack →
      p ≡ port_to s (stream_target s p stack) → stream_of origin_of (port_stream p stack) ≡ stream_to entries number_of s (stream_target s p stack)
  stream_taken s port.Inherit numbers stack full from is = inherits s
  stream_taken s port.Null numbers stack full from is = nulls s
  stream_taken s (port.Place place) numbers stack full from is = absurd (not_place s place (Parents s) is)
  stream_taken s port.Given numbers [] full from is = absurd (omega (arith, full))
  stream_taken s port.Given [] (t ∷ stack) full from is = absurd (cc)
  stream_taken s port.Given (o ∷ numbers) (t ∷ stack) full from is = let top : Some o ≡ origin_to entries number_of t = cc in given_top s t o is top

  -- each of three streams that are taken by their ports goes to its target
  pub streams_taken : {H : Type 0} (scope : Scope E H) (ports : PerStream Port)
      (stack : List (Target E))
      → port_end_count ports.input + (port_end_count ports.output + port_end_count ports.error) ≤ length stack
      → ((s : Stream) → port_in ports s ≡ port_to s (target_of (surroundings_by scope ports stack) s))
      → map (λ o. Some o) (map origin_of stack) ≡ map (origin_to entries number_of) stack
      → let t = port_streams ports stack in
      stream_of origin_of t.input ∷ stream_of origin_of t.output ∷ stream_of origin_of t.error ∷ []
      ≡ streams_to entries number_of (surroundings_by scope ports stack)
  streams_taken scope ports stack full are from =
      let le : port_end_count ports.error ≤ length stack = omega (arith, full) in
      let one = less_from ports.error stack from in
      let two = less_from ports.output (stack_after_port ports.error stack) one in
      let e = stream_taken Err ports.error _ stack le from (are Err) in
      let o = stream_taken Out ports.output _ (stack_after_port ports.error stack) (full_output ports stack full) one (are Out) in
      let i = stream_taken In ports.input _ (stack_after_port ports.output (stack_after_port ports.error stack)) (full_input ports stack full) two (are In) in
      λ j. i j ∷ o j ∷ e j ∷ []
    where
      less_from : (p : Port) (stack : List (Target E))
          → map (λ o. Some o) (map origin_of stack) ≡ map (origin_to entries number_of) stack →
          map (λ o. Some o) (map origin_of (stack_after_port p stack)) ≡ map (origin_to entries number_of) (stack_after_port p stack)
      less_from port.Inherit stack is = is
      less_from port.Null stack is = is
      less_from (port.Place place) stack is = is
      less_from port.Given [] is = is
      less_from port.Given (x ∷ stack) is = cc

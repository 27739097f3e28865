-- What was read of an end, after one more read.
use Rattle.std.proofs.Common.{ℕ, List, [], ◌++◌, Ok, Some, None, IfSome, Option, ◌≡◌, ◌<◌, length, refl, ap, sym, subst, ◌∙◌, append_assoc, append-nil, Global, Vec, Result}
use Rattle.std.specs.Io.KnownBytes.{Consumes, IsAtEnd, Keeps, ReadConsumes}
use Rattle.std.specs.declared.io.Error.{Error}
use mathlib.Core.Logic.{∥∥₁_map}
use Rattle.duct_system.specs.declared.system.Said.{Said}
use Rattle.duct_system.specs.declared.system.Said.TheVariants.{Done}
use Rattle.duct_replay.specs.RecordingView.{Shared, bytes_of, HasGiven, HasGivenAll, KeepsMore, MayGive, ByReader, ByWorker}

-- known bytes lose some, and then more
lose_more : (first old new : Option (List ℕ)) (bytes more : List ℕ) → Consumes first old bytes
    → Consumes old new more → Consumes first new (bytes ++ more)
lose_more None old new bytes more lost also = tt
lose_more (Some all) None new bytes more lost also = absurd lost
lose_more (Some all) (Some left) None bytes more lost also = absurd also
lose_more (Some all) (Some left) (Some rest) bytes more lost also =
    lost ∙ (ap (λ bs. bytes ++ bs) also ∙ sym (append_assoc bytes more rest))

-- all of them
lose_all : (first old new : Option (List ℕ)) (bytes : List ℕ) → Consumes first old bytes
    → Consumes old new [] → IsAtEnd new → IfSome first (λ left. left ≡ bytes)
lose_all None old new bytes lost also none = tt
lose_all (Some all) None new bytes lost also none = absurd lost
lose_all (Some all) (Some left) None bytes lost also none = absurd also
lose_all (Some all) (Some left) (Some rest) bytes lost also none =
    lost ∙ (ap (λ bs. bytes ++ bs) (also ∙ none) ∙ append-nil bytes)

-- none
lose_none : (first old new : Option (List ℕ)) (bytes : List ℕ) → Consumes first old bytes
    → Keeps old new → Consumes first new bytes
lose_none None old new bytes lost keeps = tt
lose_none (Some all) None new bytes lost keeps = absurd lost
lose_none (Some all) (Some left) None bytes lost keeps = absurd keeps
lose_none (Some all) (Some left) (Some rest) bytes lost keeps =
    lost ∙ ap (λ bs. bytes ++ bs) (sym keeps)

-- a read that returned nothing, with room for more
pub at_end : (old new : Option (List ℕ)) (result : Result ℕ Error) (count : ℕ) (buf : List ℕ)
    → result ≡ Ok count → count ≡ 0 → 0 < length buf → ReadConsumes old new result buf
    → Consumes old new [] × IsAtEnd new
at_end old new result count buf is none room reads =
    let at = subst (λ r. ReadConsumes old new r buf) (is ∙ ap Ok none) reads in
    (at.0, at.1 refl room)

-- a reader that returned more
pub given_more : {R : Type 0} (may_read : ℕ → R → Type 0) (remaining : R → Option (List ℕ))
    (number : ℕ) (bytes more : List ℕ) (old new : R)
    → Consumes (remaining old) (remaining new) more
    → ∥ HasGiven may_read remaining number bytes old ∥₁
    → ∥ HasGiven may_read remaining number (bytes ++ more) new ∥₁
given_more may_read remaining number bytes more old new also given =
    ∥∥₁_map given (λ given. record {
      first = given.first;
      is_first = given.is_first;
      given = lose_more (remaining given.first) (remaining old) (remaining new) bytes more given.given also;
    })

-- a reader whose read failed
pub given_same : {R : Type 0} (may_read : ℕ → R → Type 0) (remaining : R → Option (List ℕ))
    (number : ℕ) (bytes : List ℕ) (old new : R) → Keeps (remaining old) (remaining new)
    → ∥ HasGiven may_read remaining number bytes old ∥₁
    → ∥ HasGiven may_read remaining number bytes new ∥₁
given_same may_read remaining number bytes old new keeps given =
    ∥∥₁_map given (λ given. record {
      first = given.first;
      is_first = given.is_first;
      given = lose_none (remaining given.first) (remaining old) (remaining new) bytes given.given keeps;
    })

-- what is kept after more was kept
pub keeps_more : {N : Type 0} (old new : Option (N × Vec ℕ Global)) (kept : N × Vec ℕ Global)
    (bytes : List ℕ) (Before After : List ℕ → Type 0) → KeepsMore old bytes new → new ≡ Some kept
    → ((before : N × Vec ℕ Global) → old ≡ Some before → Before before.1.items)
    → ((before : List ℕ) → Before before → After (before ++ bytes)) → After kept.1.items
keeps_more old new kept bytes Before After keeps is given more =
    either old (subst (KeepsMore old bytes) is keeps) given
  where
    either : (old : Option _) → KeepsMore old bytes (Some kept)
        → ((before : _) → old ≡ Some before → Before before.1.items) → After kept.1.items
    either None keeps given = absurd keeps
    either (Some before) keeps given =
        subst After (sym keeps) (more before.1.items (given before refl))

-- a reader that is at its end
pub given_all : {R : Type 0} (may_read : ℕ → R → Type 0) (remaining : R → Option (List ℕ))
    (number : ℕ) (bytes : List ℕ) (old new : R) → Consumes (remaining old) (remaining new) []
    → IsAtEnd (remaining new) → ∥ HasGiven may_read remaining number bytes old ∥₁
    → ∥ HasGivenAll may_read remaining number bytes ∥₁
given_all may_read remaining number bytes old new also none given =
    ∥∥₁_map given (λ given. record {
      first = given.first;
      is_first = given.is_first;
      all_are = lose_all (remaining given.first) (remaining old) (remaining new) bytes given.given also none;
    })

-- the same bytes, owned by another one
pub given_again : {R : Type 0} (may_read : ℕ → R → Type 0) (remaining : R → Option (List ℕ))
    (may_say : ℕ → Said Shared → Type 0) (number : ℕ) (bytes again : List ℕ) → again ≡ bytes
    → ∥ MayGive may_read remaining may_say number bytes ∥₁
    → ∥ MayGive may_read remaining may_say number again ∥₁
given_again may_read remaining may_say number bytes again is given = rw is given

-- all that a reader had
pub by_reader : {R : Type 0} (may_read : ℕ → R → Type 0) (remaining : R → Option (List ℕ))
    (may_say : ℕ → Said Shared → Type 0) (number : ℕ) (bytes again : List ℕ) → again ≡ bytes
    → ∥ HasGivenAll may_read remaining number bytes ∥₁
    → ∥ MayGive may_read remaining may_say number again ∥₁
by_reader may_read remaining may_say number bytes again is given =
    rw is (∥∥₁_map given (λ given. ByReader given))

-- what a poll of a worker returned
pub by_worker : {R : Type 0} (may_read : ℕ → R → Type 0) (remaining : R → Option (List ℕ))
    (may_say : ℕ → Said Shared → Type 0) (number before : ℕ) (said : Said Shared) (shared again : Shared)
    → number ≡ before → said ≡ Done shared → bytes_of again ≡ bytes_of shared → may_say before said
    → ∥ MayGive may_read remaining may_say number (bytes_of again) ∥₁
by_worker may_read remaining may_say number before said shared again number_is said_is is told =
    let done = subst (may_say before) said_is told in
    rw number_is (∣ ByWorker shared done (sym is) ∣₁)

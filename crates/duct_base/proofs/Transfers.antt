-- Lemmas on what was written and read so far, one step at a time.
use Rattle.std.proofs.Common.{◌≡◌, ℕ, ◌+◌, ◌-◌, List, ◌++◌, IfOk, OnErr, length, take, drop, sym, ap, subst, ◌∙◌, append_assoc, take-append-drop, take-add, drop_at, Option, Result}
use lib.Seq.{take-append-le}
use Rattle.std.proofs.KnownBytes.{Appends-trans, Consumes-trans, Consumes-kept}
use Rattle.std.proofs.lemmas.List.{take_rest}
use Rattle.std.specs.Io.{ReadsAtMost}
use Rattle.std.specs.Io.KnownBytes.{Appends, Consumes, Keeps}
use Rattle.std.specs.declared.result.Result.TheVariants.{Ok, Err}
use Rattle.duct_base.specs.Transfer.{ConsumesFront}

-- a part of the rest was written after what was written before
pub writes_more : (a b c : Option (List ℕ)) (bytes done rest : List ℕ) (taken : ℕ)
    → bytes ≡ done ++ rest → Appends a b done → Appends b c (take taken rest)
    → (more : List ℕ) × (bytes ≡ more ++ take (length rest - taken) (drop taken rest))
    × Appends a c more
writes_more a b c bytes done rest taken split before now = (
  done ++ take taken rest,
  split ∙ ap (λ l. done ++ l) (sym (take-append-drop taken rest))
      ∙ sym (append_assoc done (take taken rest) (drop taken rest))
      ∙ ap (λ l. (done ++ take taken rest) ++ l) (sym (take_rest rest taken)),
  Appends-trans a b c _ _ before now,
)

-- a read put its bytes after those that were already in the buffer
pub read_in_place : {E : Type 0} (a b : Option (List ℕ)) (r : Result ℕ E)
    (front part rest : List ℕ) (at : ℕ) → length front ≡ at → ReadsAtMost r part
    → IfOk r (λ n. Consumes a b (take n part))
    → IfOk r (λ n. Consumes a b (take n (drop at (front ++ (part ++ rest)))))
read_in_place a b (Ok n) front part rest at long fits read =
    subst (Consumes a b)
    (sym (ap (take n) (drop_at front (part ++ rest) at long) ∙ take-append-le n part rest fits.0))
    read
read_in_place a b (Err e) front part rest at long fits read = tt

-- the bytes that were filled before, and those that a read put after them, are all that was read
pub filled_more : (a b c : Option (List ℕ)) (xs ys : List ℕ) (filled n : ℕ)
    → take filled ys ≡ take filled xs → Consumes a b (take filled xs)
    → Consumes b c (take n (drop filled ys)) → Consumes a c (take (filled + n) ys)
filled_more a b c xs ys filled n front before now =
    subst (Consumes a c) (ap (λ l. l ++ take n (drop filled ys)) (sym front)
    ∙ sym (take-add filled n ys)) (Consumes-trans a b c _ _ before now)

-- what was read before an error is a prefix of what was left
pub lost_at_error : {T E : Type 0} (r : Result T E) (a b c : Option (List ℕ)) (front : List ℕ)
    → Consumes a b front → Keeps b c → OnErr r (ConsumesFront a c)
lost_at_error (Ok x) a b c front read kept = tt
lost_at_error (Err e) a b c front read kept = (front, Consumes-kept a b c front read kept)

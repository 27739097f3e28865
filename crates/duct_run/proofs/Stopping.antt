-- A run makes no request but closes after a request that was refused.
use Rattle.std.proofs.Common.{◌≡◌, ℕ, List, [], ◌∷◌, ◌++◌, refl, sym, subst, append_assoc, map, Some, None, IfSome, Option}
use Rattle.duct_run.proofs.Common.{append-nil, EntryView, Close, IsClean, StopsAtFault, OnlyCloses, fault_of, Error, Fault, StopReason, unasked, hooked, refused}

if_none : (o : Option Fault) (P : Fault → Type 0) → o ≡ None → IfSome o P
if_none None P is = tt
if_none (Some fault) P is = absurd (cc)

if_all : (o : Option Fault) (P : Type 0) → P → IfSome o (λ fault. P)
if_all None P p = tt
if_all (Some fault) P p = p

closes_only : (numbers : List ℕ) → OnlyCloses (map Close numbers)
closes_only [] = tt
closes_only (n ∷ numbers) = (refl, closes_only numbers)

closes_stop : (numbers : List ℕ) → StopsAtFault (map Close numbers)
closes_stop [] = tt
closes_stop (n ∷ numbers) = (tt, closes_stop numbers)

clean_stop : (xs rest : List EntryView) → IsClean xs → StopsAtFault rest → StopsAtFault (xs ++ rest)
clean_stop [] rest clean stops = stops
clean_stop (x ∷ xs) rest clean stops = (if_none (fault_of x) (λ fault. OnlyCloses (xs ++ rest)) clean.0, clean_stop xs rest clean.1 stops)

-- after the request that was refused there are only closes
pub ended_stops : (added : List EntryView) (error : Error) (numbers : List ℕ)
    → StopReason added error → StopsAtFault (added ++ map Close numbers)
ended_stops added error numbers (unasked clean un) = clean_stop added (map Close numbers) clean (closes_stop numbers)
ended_stops added error numbers (hooked clean is) = clean_stop added (map Close numbers) clean (closes_stop numbers)
ended_stops added error numbers (refused front entry fault clean is) =
    subst StopsAtFault (sym (append_assoc front (entry ∷ []) (map Close numbers)))
    (clean_stop front (entry ∷ map Close numbers) clean (if_all (fault_of entry) (OnlyCloses (map Close numbers)) (closes_only numbers), closes_stop numbers))

-- entries without a fault have no fault to stop at
pub clean_stops : (added : List EntryView) → IsClean added → StopsAtFault added
clean_stops added clean = subst StopsAtFault (append-nil added) (clean_stop added [] clean tt)

-- The first fault in two lists of reports, one after the other, and whether something runs.
use Rattle.std.proofs.Common.{◌≡◌, ◌||◌, List, [], ◌∷◌, ◌++◌, refl}
use Rattle.std.specs.Option.{option_or}
use Rattle.duct_system.specs.declared.system.Said.{Said}
use Rattle.duct_system.specs.declared.system.Said.TheVariants as said
use Rattle.duct_status.specs.Outcome.{first_fault, some_runs}

pub fault_append : (xs ys : List (Said (Unit {0})))
    → first_fault (xs ++ ys) ≡ option_or (first_fault xs) (first_fault ys)
fault_append [] ys = refl
fault_append (said.Fault fault ∷ xs) ys = refl
fault_append (said.Running ∷ xs) ys = fault_append xs ys
fault_append (said.Done value ∷ xs) ys = fault_append xs ys

pub runs_append : (xs ys : List (Said (Unit {0})))
    → some_runs (xs ++ ys) ≡ (some_runs xs || some_runs ys)
runs_append [] ys = refl
runs_append (said.Running ∷ xs) ys = refl
runs_append (said.Fault fault ∷ xs) ys = runs_append xs ys
runs_append (said.Done value ∷ xs) ys = runs_append xs ys

-- What a drain returns again.
use Rattle.std.specs.Prelude.{ℕ, List, ◌≡◌, IfSome, IfNone, Some, None, unwrap_or, Option}
use Rattle.duct_system.specs.Job.{SaysAgain}
use Rattle.duct_system.specs.declared.system.Said.{Said}
use Rattle.duct_system.specs.declared.system.Said.TheVariants.{Running, Done, Fault}
use Rattle.duct_script.specs.Answers.{Shared, SameBytes, bytes_said}

-- a clone of what is kept is the same result again; if cloning fails, which happens only for bytes,
-- the result is Running
pub says_again : (kept said : Said Shared) (answer : Option (Said Shared)) →
    bytes_said said ≡ bytes_said kept → IfSome answer (λ again. bytes_said again ≡ bytes_said said) → IfNone answer ((bytes : List ℕ) × (bytes_said said ≡ Done bytes)) →
    SaysAgain SameBytes (Unit {0}) kept (unwrap_or answer Running)
says_again Running said answer is same refused = tt
says_again (Done bytes) said None is same refused = tt
says_again (Done bytes) said (Some Running) is same refused = cc
says_again (Done bytes) said (Some (Done again)) is same refused = cc
says_again (Done bytes) said (Some (Fault fault)) is same refused = cc
says_again (Fault fault) said None is same refused = let word = refused.1 in cc
says_again (Fault fault) said (Some Running) is same refused = cc
says_again (Fault fault) said (Some (Done again)) is same refused = cc
says_again (Fault fault) said (Some (Fault again)) is same refused = cc

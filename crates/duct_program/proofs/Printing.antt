-- What the status of the program says of what was printed.
use Rattle.std.proofs.Common.{◌≡◌, ℕ, List, inl, inr, refl, subst, IfOk, Ok, Err, Option, Result}
use Rattle.std.specs.Result.{result_unwrap_or}
use Rattle.duct_program.specs.Answered.{AppendsFailure, PrintsFailure, status_of}
use Rattle.duct_program.specs.Parsed.{RefusesAs}
use Rattle.duct_program.specs.declared.failure.Failure.{Failure}
use Rattle.duct_program.specs.declared.failure.Failure.TheVariants.{Usage, Error}
use Rattle.duct_program.specs.declared.usage.Usage as usages
use Rattle.duct_program.specs.declared.usage.Usage.TheVariants.{EmptyCommand, MissingPath, MissingText, Memory}

-- a status other than that of a failed write is the one that was returned
pub status_known : {E : Type 0} (P : ℕ → Type 0) (result : Result ℕ E) (status : ℕ) → (1 ≡ status → ⊥)
    → result_unwrap_or result 1 ≡ status → IfOk result P → P status
status_known P (Ok returned) status other is holds = subst P is holds
status_known P (Err e) status other is holds = absurd (other is)

-- no failure has the status of a text
never_zero : (failure : Failure) → 0 ≡ status_of failure → ⊥
never_zero (Usage EmptyCommand) is = cc
never_zero (Usage MissingText) is = cc
never_zero (Usage MissingPath) is = cc
never_zero (Usage Memory) is = cc
never_zero (Error error) is = cc

-- a failure whose status is 2 is a usage error, and memory has not run out
two_is_usage : (failure : Failure) → 2 ≡ status_of failure
    → (usage : usages.Usage) × (failure ≡ Usage usage) × (usage ≡ Memory → ⊥)
two_is_usage (Usage EmptyCommand) is = (EmptyCommand, refl, λ no. cc)
two_is_usage (Usage MissingText) is = (MissingText, refl, λ no. cc)
two_is_usage (Usage MissingPath) is = (MissingPath, refl, λ no. cc)
two_is_usage (Usage Memory) is = absurd (cc)
two_is_usage (Error error) is = absurd (cc)

-- such a usage error is the one that is read
pub refused_as_read : {B : Type 0} (usage : usages.Usage) (read : Result B usages.Usage)
    → (usage ≡ Memory → ⊥) → RefusesAs usage read → read ≡ Err usage
refused_as_read EmptyCommand read known refused = refused
refused_as_read MissingText read known refused = refused
refused_as_read MissingPath read known refused = refused
refused_as_read Memory read known refused = absurd (known refl)

module _ (failure : Failure) (old new : Option (List ℕ)) where
  pub zero_prints_none : PrintsFailure failure 0 old new → ⊥
  zero_prints_none (inl (is, appends)) = never_zero failure is
  zero_prints_none (inr (is, appends)) = cc

  pub two_prints_usage : PrintsFailure failure 2 old new
      → (usage : usages.Usage) × (failure ≡ Usage usage) × (usage ≡ Memory → ⊥)
      × AppendsFailure (Usage usage) old new
  two_prints_usage (inl (is, appends)) =
      let found = two_is_usage failure is in
      (found.0, found.1, found.2, subst (λ (f : Failure). AppendsFailure f old new) found.1 appends)
  two_prints_usage (inr (is, appends)) = absurd (cc)

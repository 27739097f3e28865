-- What a poll concluded says which answer is published.
use Rattle.duct_handle.proofs.Common.{arc_value, Arc, Answer, Output, ReplyView, noted, unknown, pending, faulted, answered, failed, no_memory, ShapeView, IsConcludedPoll, WasConcluded, NumbersView, Gives, Bytes}
use Rattle.std.proofs.Common.{◌≡◌, sym, subst, inl, inr, ℕ, string_bytes, Ok, Err, Some, String, Global}
use Rattle.duct_system.specs.declared.error.Error.TheVariants as error
use Rattle.duct_system.specs.declared.system.Said.{Said}

gives_output : (reply : ReplyView) (output : Arc Output Global) → Gives reply (Ok (Some output))
    → reply ≡ answered (arc_value output).status (arc_value output).stdout.items (arc_value output).stderr.items
gives_output pending output gives = absurd (cc)
gives_output (faulted fault) output gives = absurd (cc)
gives_output (answered status out err) output gives = λ i. answered (sym gives.0 i) (sym gives.1 i) (sym gives.2 i)
gives_output (failed text) output gives = absurd gives
gives_output no_memory output gives = absurd (cc)
gives_output noted output gives = absurd gives
gives_output unknown output gives = absurd gives

gives_failure : (reply : ReplyView) (text : Arc (String Global) Global) → Gives reply (Err (error.Checked text))
    → reply ≡ failed (string_bytes (arc_value text))
gives_failure pending text gives = absurd (cc)
gives_failure (faulted fault) text gives = absurd (cc)
gives_failure (answered status out err) text gives = absurd gives
gives_failure (failed said) text gives = λ i. failed (sym gives i)
gives_failure no_memory text gives = absurd (cc)
gives_failure noted text gives = absurd gives
gives_failure unknown text gives = absurd gives

module _ (may : ℕ → Answer → Type 0) (feed : ℕ → Said (Unit {0}) → Type 0) (drain : ℕ → Said Bytes → Type 0) (shape : ShapeView) (numbers : NumbersView) where
  -- an output that was returned was concluded
  pub output_concluded : (output : Arc Output Global) → IsConcludedPoll may feed drain shape numbers (Ok (Some output))
      → WasConcluded may feed drain shape numbers (answered (arc_value output).status (arc_value output).stdout.items (arc_value output).stderr.items)
  output_concluded output (inl (reply, was, gives)) = subst (λ r. WasConcluded may feed drain shape numbers r) (gives_output reply output gives) was
  output_concluded output (inr is) = absurd (cc)

  -- so was a checked failure
  pub failure_concluded : (text : Arc (String Global) Global) → IsConcludedPoll may feed drain shape numbers (Err (error.Checked text))
      → WasConcluded may feed drain shape numbers (failed (string_bytes (arc_value text)))
  failure_concluded text (inl (reply, was, gives)) = subst (λ r. WasConcluded may feed drain shape numbers r) (gives_failure reply text gives) was
  failure_concluded text (inr is) = absurd (cc)

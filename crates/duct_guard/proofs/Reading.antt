-- A read or a run over a new guard: its journal is that of the whole call.
use Rattle.std.proofs.Common.{ℕ, [], ◌≡◌, Ok, Err, IfOk, IfErr, inl, inr, arith, subst, Result}
use Rattle.duct_base.specs.Pool.{PoolView}
use Rattle.duct_guard.proofs.Common.{JournalView, IsCall, Launched, MadeBy, RunFailed, StartKind, IsBegun, nothing_held, FixedGuard, IsLeft, Held}
use Rattle.duct_system.specs.declared.error.Error.{Error}
use Rattle.duct_start.specs.Chain.{Allows, Refuses}
use Rattle.duct_start.specs.Running.{RunningView}
use Rattle.duct_start.specs.Start.{Grows}
use Rattle.duct_system.specs.SystemViews.{SystemViews}
use Rattle.duct_running.specs.Stored.{Bytes}
use Rattle.duct.specs.declared.expression.Expression.{Expression}
use Rattle.duct_guard.specs.declared.fixed.FixedRules as rules_trait
use Rattle.duct_guard.specs.declared.policy.Policy as policy_trait
use Rattle.duct_guard.specs.declared.under.Under.{Under}

module _ {S E C F D : Type 0} (views : SystemViews S E C F D (Unit {0}) Bytes) {H : Type 0}
    (allows : Allows H) (refuses : Refuses H) (root : Expression E H) {T : Type 0} (kind : StartKind) (returns : T → MadeBy E H)
    (fails : Error → RunningView C F D → MadeBy E H) (before : S × PoolView C) where
  pub done : (returned : Result T Error) (after : S × PoolView C)
      → IfOk returned (λ value. Launched views allows kind root before.0 after.0 before.1 after.1 (returns value))
      → IfErr returned (RunFailed views allows refuses kind root before.0 after.0 before.1 after.1 fails)
      → IsCall views allows refuses root kind returns fails before returned after
  done (Ok value) after ok err = ok
  done (Err error) after ok err = err

  pub grows : (returned : Result T Error) (after : S × PoolView C)
      → IsCall views allows refuses root kind returns fails before returned after → Grows (views.journal before.0) (views.journal after.0)
  grows (Ok value) after called = called.asked.grows
  grows (Err error) after (inl refused) = refused.asked.grows
  grows (Err error) after (inr failed) = failed.asked.grows

-- a journal that has grown from an empty one was never cleared
pub never_cleared : (earlier : Held) (old new : JournalView) (next : ℕ)
    → old ≡ record { entries = []; added = 0; next = next; room = 0 } → Grows old new
    → IsBegun earlier new.added new.entries → earlier ≡ nothing_held
never_cleared earlier old new next empty grows begun =
    let grown = rw empty at grows.counted in
    begun.nothing (omega (arith, grown))

-- what is left of a guard that had held nothing before
pub left_of : {S E C F D V W P K T : Type 0} (views : SystemViews S E C F D V W) (policy : policy_trait.Ghosts P)
    (fixed : rules_trait.Ghosts K) (earlier : Held) (guard : FixedGuard views policy fixed) (left : Under S T)
    → earlier ≡ nothing_held → IsLeft views policy fixed earlier guard left → IsLeft views policy fixed nothing_held guard left
left_of views policy fixed earlier guard left none is =
    subst (λ (held : Held). IsLeft views policy fixed held guard left) none is

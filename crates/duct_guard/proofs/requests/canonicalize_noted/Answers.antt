use Rattle.std.proofs.Common.{refl, sym}
use Rattle.duct_guard.proofs.Guarding.{failed, forbidden, lost_path}
use Rattle.duct_guard.proofs.Holding.{as_allowed}
use Rattle.duct_guard.proofs.requests.canonicalize_noted.Goals as goal

pub returns-then-not-allows-clause-forwards : goal.returns-then-not-allows-clause-forwards
returns-then-not-allows-clause-forwards g c =
    λ held. forbidden _ held _ _ _ (as_allowed (sym c.if-not-allows.ensures)) refl c.forbidden.ensures refl

pub returns-in-Err-from_str-clause-forwards : goal.returns-in-Err-from_str-clause-forwards
returns-in-Err-from_str-clause-forwards g c =
    λ held. lost_path _ held _ _ _ _ _ (sym c.if-not-allows.ensures) c.no_memory.ensures c.in-Ok.ensures.ok

pub returns-in-Err-clause-forwards : goal.returns-in-Err-clause-forwards
returns-in-Err-clause-forwards g c =
    λ held. failed _ held _ _ _ _ (as_allowed (sym c.if-not-allows.ensures)) refl refl c.in-Err.ensures.err

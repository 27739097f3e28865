use Rattle.std.proofs.Common.{refl, sym, ◌∙◌}
use Rattle.duct_guard.proofs.Guarding.{forbidden, pipe_answered}
use Rattle.duct_guard.proofs.Holding.{on_ok}
use Rattle.duct_guard.proofs.requests.pipe_allowed.Goals as goal

pub returns-then-allows_ends-clause-forwards : goal.returns-then-allows_ends-clause-forwards
returns-then-allows_ends-clause-forwards g c =
    pipe_answered _ c.args.held g.S.End.Numbered.number_of _ _ c.pipe.result (sym c.allows_ends.ensures.within ∙ c.if-allows_ends.true) c.pipe.ensures.ok c.pipe.ensures.err

pub returns-then-allows_ends-clause-counts : goal.returns-then-allows_ends-clause-counts
returns-then-allows_ends-clause-counts g c =
    on_ok c.pipe.result (c.allows_ends.ensures.counts c.if-allows_ends.true)

pub returns-else-allows_ends-clause-forwards : goal.returns-else-allows_ends-clause-forwards
returns-else-allows_ends-clause-forwards g c =
    forbidden _ _ _ _ _ (sym c.allows_ends.ensures.within ∙ c.if-allows_ends.false) refl c.forbidden.ensures refl

use Rattle.std.proofs.Common.{◌≡◌, ◌+◌, ◌&&◌, true, false, nat_le, refl, sym, ◌∙◌}
use Rattle.duct_guard.proofs.Common.{asked_of}
use Rattle.duct_guard.proofs.Guarding.{end_answered, end_forbidden}
use Rattle.duct_guard.proofs.requests.end_allowed.Goals.{else-allows-via-then-allows+else-allows_ends, else-allows-via-else-allows}
use Rattle.duct_guard.proofs.requests.end_allowed.Goals as goal

pub returns-then-allows_ends-clause-forwards : goal.returns-then-allows_ends-clause-forwards
returns-then-allows_ends-clause-forwards g c =
    let rules = g.P.Policy.rules c.args.policy.now in
    let asked = rw c.request.ensures at (sym c.allows.ensures ∙ c.if-allows.true) in
    let allowed : (rules.allows (asked_of c.args.asked.now) && nat_le (c.args.held.ends + 1) rules.limits.ends) ≡ true =
    rw asked (sym c.allows_ends.ensures.within ∙ c.if-allows_ends.true) in
    end_answered g.S.End.Numbered.number_of c.args.asked.now c.end_asked.result allowed c.end_asked.ensures

pub returns-else-allows-clause-forwards : goal.returns-else-allows-clause-forwards
returns-else-allows-clause-forwards g c =
    let rules = g.P.Policy.rules c.args.policy.now in
    let denied : (rules.allows (asked_of c.args.asked.now) && nat_le (c.args.held.ends + 1) rules.limits.ends) ≡ false =
    elim c.else-allows.branch [
      | else-allows-via-then-allows+else-allows_ends w ↦
          rw (rw c.request.ensures at (sym c.allows.ensures ∙ w.if-allows.true)) (sym w.allows_ends.ensures.within ∙ w.if-allows_ends.false)
      | else-allows-via-else-allows w ↦ rw (rw c.request.ensures at (sym c.allows.ensures ∙ w.if-allows.false)) refl
    ] in
    end_forbidden g.S.End.Numbered.number_of c.args.asked.now _ denied c.forbidden.ensures

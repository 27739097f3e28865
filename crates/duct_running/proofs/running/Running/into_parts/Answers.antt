use Rattle.std.proofs.Common.{◌≡◌, ◌++◌, refl, ap, sym, ◌∙◌, option_to_list}
use Rattle.duct_running.proofs.Common.{append-nil, RunningView}
use Rattle.duct_running.proofs.running.Running.into_parts.Goals as goal
use Rattle.duct_running.proofs.running.Running.into_parts.Goals.{in-Some, in_default, in-Some-error, in_default-error}

pub returns-clause-children : goal.returns-clause-children
returns-clause-children g c = ap (λ (r : RunningView _ _ _). r.children) c.self.view_is

pub returns-clause-drains : goal.returns-clause-drains
returns-clause-drains g c =
    let first : c.match-output.drains.items ≡ option_to_list c.self.inside.drains.out =
    elim c.match-output.branch [
      | in-Some w ↦ rw (w.drains-is, w.push_reserved.ensures.items, w.in-Some.is, c.self.invariant.empty) refl
      | in_default w ↦ rw (w.drains-is, w.in_default.is) c.self.invariant.empty
    ] in
    let both : c.match-error.drains.items ≡ c.match-output.drains.items ++ option_to_list c.self.inside.drains.err =
    elim c.match-error.branch [
      | in-Some-error w ↦ rw (w.drains-is, w.push_reserved-in-Some-error.ensures.items, w.in-Some-error.is) refl
      | in_default-error w ↦ rw (w.drains-is, w.in_default-error.is) (sym (append-nil c.match-output.drains.items))
    ] in
    both ∙ ap (λ l. l ++ option_to_list c.self.inside.drains.err) first ∙ ap (λ (r : RunningView _ _ _). option_to_list r.output ++ option_to_list r.error) c.self.view_is

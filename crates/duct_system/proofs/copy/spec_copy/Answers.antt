-- The next variable goes behind those that were copied.
use Rattle.std.proofs.Common.{◌≡◌, ◌∷◌, ◌++◌, map, refl}
use Rattle.duct_system.proofs.Copying.{next_copied}
use Rattle.duct_system.proofs.copy.spec_copy.Goals as goal

pub loop-name-preserved : goal.loop-name-preserved
loop-name-preserved c =
    let inv = c.loop-name.invariant in
    let env = c.in_ok-set_variable.ensures in
    let rest = map (λ p. (p.0.now, p.1.now)) c.next.new.self.rest.items in
    let is : c.loop-name.copy.vars ++ (c.in-Some.name.now, c.in-Some.value.now) ∷ rest ≡ c.args.spec.now.vars = rw c.in-Some.ensures.steps.0 at inv.vars in
    let step = next_copied c.args.spec.now.vars c.loop-name.copy.vars c.in-Some.name.now c.in-Some.value.now rest c.in-Ok.ensures.ordered is in
    record {
      parts = rw (env, inv.parts) refl;
      vars = rw env step;
    }

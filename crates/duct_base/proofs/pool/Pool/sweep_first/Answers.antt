use Rattle.std.proofs.Common.{refl, ap, arith, ◌≡◌, ◌++◌}
use Rattle.std.proofs.lemmas.Grind.{common_steps}
use Rattle.duct_base.specs.Pool.{in_nodes}
use Rattle.duct_base.proofs.Sieving.{one_node, sweeps_kept, sweeps_reaped, sweeps_lost}
use Rattle.duct_base.proofs.pool.Pool.sweep_first.Goals as goal

pub vacate-child-requires : goal.vacate-child-requires
vacate-child-requires g c = one_node _ _ _ c.self.invariant.0 c.others-rest.ensures.whole c.others-rest.ensures.one

pub returns-in-Ok-None : goal.returns-in-Ok-None
returns-in-Ok-None g c =
    let polls = rw c.in-Ok-None.field-0-is at c.in-Ok-None.ensures in
    let whole : c.append.new.self ≡ c.others-rest.result ++ c.fill.new.node = grind (arith, common_steps, c.append.ensures.items, c.append.ensures.succeeds, c.others-rest.ensures.fits) in
    sweeps_kept g.C.Child.may_answer g.C.Child.child_view _ _ _ _ _ _ _ c.self.view_is refl c.others-rest.ensures.whole c.vacate-child.ensures.was _ _ polls c.fill.ensures (ap (λ nodes. record { children = in_nodes nodes; given = c.self.inside.given; reaped = c.self.inside.reaped; lost = c.self.inside.lost }) whole)

pub returns-in-Ok-Some : goal.returns-in-Ok-Some
returns-in-Ok-Some g c =
    let polls = rw c.in-Ok-Some.field-0-is at c.in-Ok-Some.ensures in
    sweeps_reaped g.C.Child.may_answer g.C.Child.child_view _ _ _ _ _ _ _ c.self.view_is refl c.others-rest.ensures.whole c.vacate-child.ensures.was _ polls.told (ap (λ n. record { children = in_nodes c.others-rest.result; given = c.self.inside.given; reaped = n; lost = c.self.inside.lost }) c.raise.ensures)

pub returns-in-Err : goal.returns-in-Err
returns-in-Err g c =
    sweeps_lost g.C.Child.may_answer g.C.Child.child_view _ _ _ _ _ _ _ c.self.view_is refl c.others-rest.ensures.whole c.vacate-child.ensures.was _ c.in-Err.ensures.told (ap (λ n. record { children = in_nodes c.others-rest.result; given = c.self.inside.given; reaped = c.self.inside.reaped; lost = n }) c.raise-in-Err.ensures)

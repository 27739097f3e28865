-- One step to the scope outside.
use Rattle.std.proofs.Common.{subst}
use Rattle.duct_run.proofs.Common.{scope_in, scopes_view}
use Rattle.duct_run.specs.Settings.{Sets}
use Rattle.duct_run.proofs.Outwards.{IsRead, is_next, outer_below, outer_within, root_is}
use Rattle.duct_run.proofs.settings.settings_in.Goals as goal

pub loop-inner-smaller : goal.loop-inner-smaller
loop-inner-smaller g c =
    let read : IsRead c.args.scopes.now c.loop-inner.inner c.index-scopes-inner.result = record { outwards = c.requires.outwards; above = c.loop-inner-test.true; within = c.loop-inner.invariant.within; is = c.index-scopes-inner.is } in
    outer_below read

pub loop-inner-preserved : goal.loop-inner-preserved
loop-inner-preserved g c =
    let read : IsRead c.args.scopes.now c.loop-inner.inner c.index-scopes-inner.result = record { outwards = c.requires.outwards; above = c.loop-inner-test.true; within = c.loop-inner.invariant.within; is = c.index-scopes-inner.is } in
    let scope = scope_in (scopes_view c.args.scopes.now) c.args.scope in
    record {
      sets = c.in_ok-add.ensures.sets _ scope (subst (λ outer. Sets c.loop-inner.settings outer scope) (is_next read) c.loop-inner.invariant.sets);
      within = outer_within read;
    }

pub returns-clause-sets : goal.returns-clause-sets
returns-clause-sets g c =
    subst (λ outer. Sets c.loop-inner.settings outer (scope_in (scopes_view c.args.scopes.now) c.args.scope))
    (root_is c.args.scopes.now c.loop-inner.inner c.loop-inner-test.false) c.loop-inner.invariant.sets

-- With the settings so far, the scope reached so far makes the scope that was passed in.
use Rattle.std.proofs.Common.{◌≤◌, length}
use Rattle.duct_run.proofs.Common.{scope_in, scopes_view}
use Rattle.duct_run.specs.Settings.{Sets}
use Rattle.duct_run.proofs.settings.settings_in.Given as goal

abbrev pub invariant-loop-inner : goal.invariant-loop-inner
invariant-loop-inner g l = record {
  sets : Sets l.settings (scope_in (scopes_view l.scopes) l.inner) (scope_in (scopes_view l.scopes) l.fn.scope);
  within : l.inner ≤ length l.scopes;
}

abbrev pub decreases-loop-inner : goal.decreases-loop-inner
decreases-loop-inner g l = l.inner

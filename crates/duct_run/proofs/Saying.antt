-- An action that succeeds or fails from any state of a run does so where the system returned these
-- variables.
use Rattle.std.proofs.Common.{ℕ, OnOk, IfErr, Result}
use Rattle.duct_run.proofs.Common.{on_ok_weaker, IfErr-weaker, JournalView, Vars, Error, Action, advance, Allows, Refuses, ActionSucceedsWith, ActionFailsWith, ResourcesView, ActionSucceeds, IsHookError, ActionFails, SystemViews, Resources}
use Rattle.duct_run.specs.Requested.{Performed, Requested}
use Rattle.duct_run.proofs.Spawning.{plain_refused}

module _ {E H : Type 0} (allows : Allows H) (number_of : E → ℕ) (pairs : Vars) (act : Action E H)
    (now next : JournalView) (held kept : ResourcesView) where
  pub goes_saying : ActionSucceeds allows number_of act now next held kept
      → ActionSucceedsWith allows number_of pairs act now next held kept
  goes_saying goes = λ context state same. goes context state

  pub quits_refused : (refuses : Refuses H) (error : Error)
      → (IsHookError error → ⊥) × ActionFails allows number_of act now next held kept error
      → ActionFailsWith allows refuses number_of pairs act now next held kept error
  quits_refused refuses error quits = λ context state same ready invariant.
      plain_refused allows refuses number_of context (advance state act).plan.items next kept error quits.0 (quits.1 context state ready invariant)

  pub ok_saying : (answer : Result (Unit {0}) Error)
      → OnOk answer (ActionSucceeds allows number_of act now next held kept)
      → OnOk answer (ActionSucceedsWith allows number_of pairs act now next held kept)
  ok_saying answer ok = on_ok_weaker answer goes_saying ok

  pub err_saying : (refuses : Refuses H) (answer : Result (Unit {0}) Error)
      → IfErr answer (λ e. (IsHookError e → ⊥) × ActionFails allows number_of act now next held kept e)
      → IfErr answer (ActionFailsWith allows refuses number_of pairs act now next held kept)
  err_saying refuses answer err = IfErr-weaker answer _ _ (quits_refused refuses) err

-- a request is an action that was performed
pub performed : {S E H C F D V W : Type 0} {views : SystemViews S E C F D V W} {allows : Allows H}
    {refuses : Refuses H} {pairs : Vars} {act : Action E H} {answer : Result (Unit {0}) Error}
    {sys after : S} {held kept : Resources E C F D}
    → Requested views allows act answer sys after held kept
    → Performed views allows refuses pairs act answer sys after held kept
performed {views = views} {allows = allows} {refuses = refuses} {answer = answer} asked = record {
  ok = ok_saying allows views.number_of _ _ _ _ _ _ answer asked.ok;
  err = err_saying allows views.number_of _ _ _ _ _ _ refuses answer asked.err;
  new = asked.new;
  workers = asked.workers;
}

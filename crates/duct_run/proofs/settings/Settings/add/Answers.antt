-- A hook of a scope outside comes before the hooks so far.
use Rattle.std.proofs.Common.{◌++◌, ◌∷◌, [], ap, sym, ◌∙◌, subst, append_assoc}
use Rattle.duct_run.proofs.Common.{step_of_setting, scope_inside, setting_view, hooks_of}
use Rattle.duct_run.specs.Settings.{Sets}
use Rattle.duct_run.proofs.Setting.{hooks_of-more}
use Rattle.duct_run.proofs.settings.Settings.add.Goals as goal

pub returns-in_ok-push-in-BeforeSpawn-clause-sets : goal.returns-in_ok-push-in-BeforeSpawn-clause-sets
returns-in_ok-push-in-BeforeSpawn-clause-sets g c = λ outer scope sets.
    let hook = c.in-BeforeSpawn.hook in
    let ends = c.in-BeforeSpawn.ends in
    let old = c.args.self.now in
    let sets = subst (λ s. Sets old (scope_inside (step_of_setting (setting_view s)) outer) scope) c.in-BeforeSpawn.is sets in
    record {
      folder_is = sets.folder_is;
      finds = sets.finds;
      hooks_are = ap (λ pairs. outer.hooks ++ hooks_of pairs) c.in_ok-push-in-BeforeSpawn.ensures.items
          ∙ ap (λ hooks. outer.hooks ++ hooks) (hooks_of-more old.hooks.items (hook, ends))
          ∙ sym (append_assoc outer.hooks ((hook.now, ends.now) ∷ []) (hooks_of old.hooks.items)) ∙ sets.hooks_are;
    }

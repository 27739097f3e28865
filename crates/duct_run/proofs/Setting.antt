-- Settings of scopes, collected from the inside out.
use Rattle.std.specs.Borrow.{Bor}
use Rattle.duct_run.proofs.Common.{option_or, append-nil, Vars, variable, Scope, changes_of, hooks_of, root_scope}
use Rattle.std.specs.Option.{option_copied}
use Rattle.std.proofs.Common.{◌≡◌, refl, ap, sym, ◌∙◌, ℕ, List, [], ◌∷◌, ◌++◌, Some, None, Option}
use Rattle.duct_run.specs.Settings.{Sets}
use Rattle.duct_run.specs.declared.settings.Settings.{Settings}

-- a hook behind others comes before them
pub hooks_of-more : {E H : Type 0} (pairs : List (Bor H × Bor (List E))) (pair : Bor H × Bor (List E))
    → hooks_of (pairs ++ pair ∷ []) ≡ (pair.0.now, pair.1.now) ∷ hooks_of pairs
hooks_of-more [] pair = refl
hooks_of-more (first ∷ pairs) pair = ap (λ hs. hs ++ (first.0.now, first.1.now) ∷ []) (hooks_of-more pairs pair)

or_none : (folder : Option (List ℕ)) → option_or folder None ≡ folder
or_none None = refl
or_none (Some folder) = refl

module _ {E H : Type 0} (settings : Settings E H) (scope : Scope E H) (sets : Sets settings root_scope scope) where
  -- where the root is all that is outside, these are the settings of the scope
  pub folder_found : option_copied settings.folder ≡ scope.folder
  folder_found = sym (or_none (option_copied settings.folder)) ∙ sets.folder_is

  pub changes_found : (pairs : Vars) (name : List ℕ)
      → variable pairs (changes_of settings.changes) name ≡ variable pairs scope.changes name
  changes_found pairs name =
      sym (ap (λ cs. variable pairs cs name) (append-nil (changes_of settings.changes))) ∙ sets.finds pairs name

  pub hooks_found : hooks_of settings.hooks.items ≡ scope.hooks
  hooks_found = sets.hooks_are

-- The entries with other names stay.
use Rattle.std.proofs.Common.{refl, rules, not}
use Rattle.std.proofs.lemmas.Map.Made.{filter_same_pairs}
use Rattle.duct_system.specs.Name.{is_same_name}
use Rattle.duct_system.proofs.Entries.{filter_vars}
use Rattle.duct_system.proofs.spec.CommandSpec.env_remove.Goals as goal

pub returns : goal.returns
returns c = rw (← c.self.view_is, filter_same_pairs _ (λ e. not (is_same_name c.args.name.now e.0)) _ (λ k v b w f' t. search rules) _ _ c.retain.ensures.filtered, filter_vars c.args.name.now c.self.inside.vars.entries) refl

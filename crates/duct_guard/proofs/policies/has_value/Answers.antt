use Rattle.std.proofs.Common.{rules, tests, ap, refl, ◌∙◌}
use Rattle.duct_guard.proofs.Common.{list_any, any_from_yields_List, var_view, is_variable}
use Rattle.std.proofs.lemmas.Iterator.Consumers.{YieldsList-from_rest}
use Rattle.duct_guard.proofs.Prefixes.{any_seen}
use Rattle.duct_guard.proofs.policies.has_value.Goals as goal

pub returns : goal.returns
returns c =
    let test = is_variable c.args.name.now c.args.value.now in
    any_from_yields_List (λ pair. test (var_view pair)) _ _ c.any.result c.any.ensures.ran
    (YieldsList-from_rest c.iter_vars.result refl) (λ x b q k. search (rules, tests))
    ∙ any_seen test var_view c.iter_vars.result ∙ ap (list_any test) c.iter_vars.ensures

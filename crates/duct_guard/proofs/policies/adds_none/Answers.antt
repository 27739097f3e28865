use Rattle.std.proofs.Common.{rules, tests, ap, map, refl, string_bytes, sym, ◌∙◌}
use Rattle.duct_guard.proofs.Common.{list_all, all_from_yields_List, list_all-map, pair_text, var_view, is_kept}
use Rattle.std.proofs.lemmas.Iterator.Consumers.{YieldsList-from_rest}
use Rattle.duct_guard.proofs.policies.adds_none.Goals as goal

pub returns : goal.returns
returns c =
    let test = is_kept (map string_bytes c.args.free.now) (map pair_text c.args.given.now) in
    all_from_yields_List (λ pair. test (var_view pair)) _ _ c.all.result c.all.ensures.ran
    (YieldsList-from_rest c.iter_vars.result refl) (λ x b q k. search (rules, tests))
    ∙ sym (list_all-map test var_view c.iter_vars.result) ∙ ap (list_all test) c.iter_vars.ensures

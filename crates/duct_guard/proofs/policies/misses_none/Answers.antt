use Rattle.std.proofs.Common.{rules, tests, map, string_bytes, sym, ◌∙◌}
use Rattle.duct_guard.proofs.Common.{YieldsList-from_slice, all_from_yields_List, list_all-map, pair_text, is_kept}
use Rattle.duct_guard.proofs.policies.misses_none.Goals as goal

pub returns : goal.returns
returns c =
    let test = is_kept (map string_bytes c.args.free.now) c.args.spec.now.vars in
    all_from_yields_List (λ pair. test (pair_text pair)) _ _ c.all.result c.all.ensures.ran
    (YieldsList-from_slice c.args.given.now cc) (λ x b q k. search (rules, tests))
    ∙ sym (list_all-map test pair_text c.args.given.now)

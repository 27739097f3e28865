use Rattle.std.proofs.Common.{rules, tests, ◌∙◌}
use Rattle.duct_guard.proofs.Common.{YieldsList-from_slice, any_from_yields_List, pair_text, is_variable}
use Rattle.duct_guard.proofs.Prefixes.{any_seen}
use Rattle.duct_guard.proofs.policies.is_given.Goals as goal

pub returns : goal.returns
returns c =
    let test = is_variable c.args.name.now c.args.value.now in
    any_from_yields_List (λ pair. test (pair_text pair)) _ _ c.any.result c.any.ensures.ran
    (YieldsList-from_slice c.args.given.now cc) (λ x b q k. search (rules, tests))
    ∙ any_seen test pair_text c.args.given.now

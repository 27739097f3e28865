use Rattle.std.proofs.Common.{rules, tests, ◌∙◌, string_bytes}
use Rattle.duct_guard.proofs.Common.{YieldsList-from_slice, any_from_yields_List, is_below}
use Rattle.duct_guard.proofs.Prefixes.{any_seen}
use Rattle.duct_guard.proofs.policies.is_below_one.Goals as goal

pub returns : goal.returns
returns c =
    any_from_yields_List (λ folder. is_below c.args.path.now (string_bytes folder)) _ _ _ c.any.ensures.ran
    (YieldsList-from_slice c.args.folders.now cc) (λ x b q k. search (rules, tests))
    ∙ any_seen (is_below c.args.path.now) string_bytes c.args.folders.now

use Rattle.std.proofs.Common.{rules, tests, ◌∙◌, bytes_eq, string_bytes}
use Rattle.duct_guard.proofs.Common.{YieldsList-from_slice, any_from_yields_List}
use Rattle.duct_guard.proofs.Prefixes.{any_seen}
use Rattle.duct_guard.proofs.policies.is_listed.Goals as goal

pub returns : goal.returns
returns c =
    any_from_yields_List (λ name. bytes_eq (string_bytes name) c.args.text.now) _ _ _ c.any.ensures.ran
    (YieldsList-from_slice c.args.names.now cc) (λ x b q k. search (rules, tests))
    ∙ any_seen (λ name. bytes_eq name c.args.text.now) string_bytes c.args.names.now

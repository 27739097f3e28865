use Rattle.std.specs.Path.{path_bytes, path_components}
use Rattle.std.proofs.Common.{ap, rules, tests, ◌≡◌, ◌∙◌, bytes_eq}
use Rattle.duct_guard.proofs.Common.{starts_with}
use Rattle.duct_guard.proofs.Prefixes.{prefix_test}
use Rattle.duct_guard.proofs.policies.is_below.Goals as goal

pub returns-then-not-is_empty : goal.returns-then-not-is_empty
returns-then-not-is_empty c =
    let folder = path_components c.args.folder.now in
    let begins : c.starts_with.result ≡ starts_with bytes_eq (path_components c.args.path.now) folder =
    prefix_test (path_components (path_bytes c.new.result)) folder c.starts_with.result c.starts_with.ensures.0 c.starts_with.ensures.1
    ∙ ap (λ text. starts_with bytes_eq (path_components text) folder) c.new.ensures in
    search (rules, tests)

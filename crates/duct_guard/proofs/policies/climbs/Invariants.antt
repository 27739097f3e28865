-- What is left of the names decides.
use Rattle.std.proofs.Common.{◌≡◌, bytes_eq}
use Rattle.duct_guard.proofs.Common.{list_any, climbs}
use Rattle.std.specs.Path.{components_remaining, parent_dir}
use Rattle.duct_guard.proofs.policies.climbs.Given as goal

abbrev pub invariant-loop-component : goal.invariant-loop-component
invariant-loop-component l =
    climbs l.path ≡ list_any (λ name. bytes_eq name parent_dir) (components_remaining l.component-iterator)

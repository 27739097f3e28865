-- What a command adds to a plan.
use Rattle.std.proofs.Common.{◌≡◌, ℕ, List, [], ◌∷◌, ◌++◌, refl, append_assoc, Bool, true, false, if◌then◌else◌}
use Rattle.duct_start.specs.Surroundings.{Surroundings}
use Rattle.duct_start.specs.Plan.{Plan, with_item, with_command, is_canonical, program_of}
use Rattle.duct_start.specs.Step.{Item, AskCanonicalize, AskSpawn}

-- the items of a command: its spawn, after the request for a canonical path if one is needed
abbrev pub items_if : {E H : Type 0} → Bool → Surroundings E H → List (List ℕ) → List (Item E H)
items_if true found words = AskCanonicalize (program_of words) ∷ AskSpawn found words ∷ []
items_if false found words = AskSpawn found words ∷ []

abbrev pub items_of : {E H : Type 0} → Surroundings E H → List (List ℕ) → List (Item E H)
items_of found words = items_if (is_canonical found words) found words

-- a plan with more items at its end
abbrev pub with_items : {E H : Type 0} → List (Item E H) → Plan E H → Plan E H
with_items items plan = record { items = plan.items ++ items; pipes = plan.pipes }

commanded_if : {E H : Type 0} (b : Bool) (found : Surroundings E H) (words : List (List ℕ))
    (plan : Plan E H) →
    with_item (AskSpawn found words) (if b then with_item (AskCanonicalize (program_of words)) plan else plan) ≡ with_items (items_if b found words) plan
commanded_if true found words plan =
    λ i. record { items = append_assoc plan.items (AskCanonicalize (program_of words) ∷ []) (AskSpawn found words ∷ []) i; pipes = plan.pipes }
commanded_if false found words plan = refl

pub commanded_is : {E H : Type 0} (found : Surroundings E H) (words : List (List ℕ)) (plan : Plan E H)
    → with_command found words plan ≡ with_items (items_of found words) plan
commanded_is found words plan = commanded_if (is_canonical found words) found words plan

-- Lists as the items of an array.
use Rattle.std.proofs.Common.{List, [], ◌∷◌, ◌≡◌, refl, ap}
use Rattle.serde_json.specs.Data.{Data}
use Rattle.serde_json.specs.View.{items_of}
use Rattle.duct_replay.specs.Lines.{list_of}

pub list_of_items : (items : List Data) → list_of (items_of items) ≡ items
list_of_items [] = refl
list_of_items (item ∷ items) = ap (λ more. item ∷ more) (list_of_items items)

-- The debug form of a list whose items are printed as what they are mapped to.
use Rattle.std.specs.Fmt.{debug_items, debug_list, comma_space, ◌++?◌}
use Rattle.std.proofs.Common.{◌≡◌, ap, refl, ℕ, List, [], ◌∷◌, map, Option, Some}

items_of_map : {X Y : Type 0} (f : Y → Option (List ℕ)) (g : X → Y) (lead : List ℕ) (xs : List X)
    → debug_items f lead (map g xs) ≡ debug_items (λ x. f (g x)) lead xs
items_of_map f g lead [] = refl
items_of_map f g lead (x ∷ xs) = ap (λ v. Some lead ++? f (g x) ++? v) (items_of_map f g comma_space xs)

pub list_of_map : {X Y : Type 0} (f : Y → Option (List ℕ)) (g : X → Y) (xs : List X)
    → debug_list f (map g xs) ≡ debug_list (λ x. f (g x)) xs
list_of_map f g xs = ap (λ v. Some (91 ∷ []) ++? v ++? Some (93 ∷ [])) (items_of_map f g [] xs)

-- The words of a command that leads a group.
use Rattle.std.specs.Prelude.{Bool, ◌||◌, List, [], ◌∷◌, codes, map, nat_eq, slice_get, string_bytes, Some, String}
use Rattle.std.specs.List.{ends_with}
use Rattle.std.specs.Str.{bytes_eq}
use Rattle.std.specs.declared.alloc.Global.{Global}
use Rattle.std.proofs.Common.{◌≡◌, ◌∙◌, ap}
use Rattle.duct_system.specs.SpecView.{leads}

-- the first of some words
pub leads_first : (words : List (String Global)) (program : String Global) (r : Bool)
    → Some program ≡ slice_get words 0
    → r ≡ (bytes_eq (string_bytes program) (codes "setsid")
    || ends_with nat_eq (string_bytes program) (codes "/setsid"))
    → r ≡ leads (map string_bytes words)
leads_first [] program r first is = absurd (cc)
leads_first (word ∷ words) program r first is =
    let same : program ≡ word = cc in
    is ∙ ap (λ (w : String Global). bytes_eq (string_bytes w) (codes "setsid")
    || ends_with nat_eq (string_bytes w) (codes "/setsid")) same

-- The pieces that are left, and redirections around a command.
use Rattle.std.proofs.Common.{◌≡◌, ℕ, List, [], ◌∷◌, ◌++◌, ap, length, map, refl, Option}
use Rattle.duct_start.specs.TreeView.{TreeView, around}
use Rattle.duct_program.specs.Line.{redirection_view, further, redirected_tree, redirects}
use Rattle.duct_program.specs.declared.command.Redirection.{Redirection}

-- how many pieces are left
abbrev pub pieces_len : Option (List (List ℕ)) → ℕ
pieces_len rest = length (further rest)

-- the last redirection is the innermost
pub last_stands_inside : {E H : Type 0} (front : List Redirection) (last : Redirection)
    (tree : TreeView E H)
    → redirected_tree (map redirection_view (front ++ last ∷ [])) tree
    ≡ redirected_tree (map redirection_view front) (around (redirects (redirection_view last)) tree)
last_stands_inside [] last tree = refl
last_stands_inside {E} {H} (first ∷ front) last tree =
    ap (λ (inner : TreeView E H). around (redirects (redirection_view first)) inner) (last_stands_inside front last tree)

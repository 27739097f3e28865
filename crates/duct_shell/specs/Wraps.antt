-- What a chain of builders is made of, and what each builder makes of it.
use Rattle.std.specs.Prelude.{◌≡◌, Ok, Err, Result}
use Rattle.duct_system.specs.declared.error.Error.{Error}
use Rattle.duct_system.specs.declared.error.Error.TheVariants.{Memory}
use Rattle.duct_start.specs.TreeView.{ModifierView, TreeView, around, pipe}
use Rattle.duct.specs.TreeView.{tree_view}
use Rattle.duct.specs.declared.expression.Expression.{Expression}

module _ {E H : Type 0} where
  -- the tree of an expression, or the error in its place
  abbrev pub tree_of_result : Result (Expression E H) Error → Result (TreeView E H) Error
  tree_of_result (Ok expression) = Ok (tree_view expression)
  tree_of_result (Err e) = Err e

  -- it is this tree, or there was no memory for it
  abbrev pub IsTree : TreeView E H → Result (Expression E H) Error → Type 0
  IsTree tree (Ok made) = tree_view made ≡ tree
  IsTree tree (Err e) = e ≡ Memory

  -- the modifier is around the tree; an error stays as it is
  abbrev pub Wraps : Result (TreeView E H) Error → ModifierView E H → Result (Expression E H) Error
      → Type 0
  Wraps (Ok tree) modifier made = IsTree (around modifier tree) made
  Wraps (Err e) modifier made = made ≡ Err e

  -- it is the pipe of both trees; of two errors it is the left one
  abbrev pub Joins : Result (TreeView E H) Error → Result (TreeView E H) Error
      → Result (Expression E H) Error → Type 0
  Joins (Ok left) (Ok right) made = IsTree (pipe left right) made
  Joins (Ok left) (Err e) made = made ≡ Err e
  Joins (Err e) right made = made ≡ Err e

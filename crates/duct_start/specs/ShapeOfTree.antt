-- The shape of a tree, which is what counts for the outcome of a start: its commands with their
-- words, its pipes, its inputs and what is unchecked.
use Rattle.duct_status.specs.ShapeView as shape
use Rattle.duct_status.specs.ShapeView.{ShapeView}
use Rattle.duct_start.specs.Row.{Mark, is_plain, is_input, is_unchecked, row}
use Rattle.duct_start.specs.TreeView.{ModifierView, TreeView, command, pipe, around}

-- the shape of a node with this mark, by the shape inside it
abbrev pub marked : Mark → ShapeView → ShapeView
marked is_plain inner = inner
marked is_input inner = shape.input inner
marked is_unchecked inner = shape.unchecked inner

-- the shape of a modifier, by the shape inside it
abbrev pub shape_around : {E H : Type 0} → ModifierView E H → ShapeView → ShapeView
shape_around modifier inner = marked (row modifier).mark inner

-- the shape of a tree
abbrev pub shape_of_tree : {E H : Type 0} → TreeView E H → ShapeView
shape_of_tree (command words) = shape.command words
shape_of_tree (pipe left right) = shape.pipe (shape_of_tree left) (shape_of_tree right)
shape_of_tree (around modifier inner) = shape_around modifier (shape_of_tree inner)

-- A shape as contracts see it: the tree of an expression's commands, with no pointers and each word
-- as a list of bytes.
use Rattle.std.specs.Prelude.{ℕ, ◌+◌, List, map, string_bytes}
use Rattle.std.specs.Arc.{arc_value}
use Rattle.duct_status.specs.declared.status.Shape.{Shape, Command, Pipe', Input', Unchecked'}

-- a command with its words, a pipe, what has an input worker, or what is unchecked
pub data ShapeView : Type 0 where
  command : List (List ℕ) → ShapeView
  pipe : ShapeView → ShapeView → ShapeView
  input : ShapeView → ShapeView
  unchecked : ShapeView → ShapeView

-- how many commands there are
abbrev pub command_count : ShapeView → ℕ
command_count (command words) = 1
command_count (pipe l r) = command_count l + command_count r
command_count (input t) = command_count t
command_count (unchecked t) = command_count t

-- how many input workers there are
abbrev pub input_count : ShapeView → ℕ
input_count (command words) = 0
input_count (pipe l r) = input_count l + input_count r
input_count (input t) = input_count t + 1
input_count (unchecked t) = input_count t

-- what contracts see of a shape
abbrev pub shape_view : Shape → ShapeView
shape_view (Command words) = command (map string_bytes (arc_value words).items)
shape_view (Pipe' p l q r) = pipe (shape_view l) (shape_view r)
shape_view (Input' p t) = input (shape_view t)
shape_view (Unchecked' p t) = unchecked (shape_view t)

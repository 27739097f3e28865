-- An expression as contracts see it: a tree without pointers, with one constructor for each kind of
-- node.
use Rattle.std.specs.Prelude.{ℕ, List}
use Rattle.duct_system.specs.SpecView.{Vars}

-- a modifier, which is what a node changes for its one inner expression; texts are lists of bytes
pub data ModifierView (E H : Type 0) : Type 0 where
  stdin_bytes : List ℕ → ModifierView E H
  stdin_path : List ℕ → ModifierView E H
  stdin_file : E → ModifierView E H
  stdin_null : ModifierView E H
  stdout_path : List ℕ → ModifierView E H
  stdout_file : E → ModifierView E H
  stdout_null : ModifierView E H
  stdout_capture : ModifierView E H
  stdout_to_stderr : ModifierView E H
  stderr_path : List ℕ → ModifierView E H
  stderr_file : E → ModifierView E H
  stderr_null : ModifierView E H
  stderr_capture : ModifierView E H
  stderr_to_stdout : ModifierView E H
  stdout_stderr_swap : ModifierView E H
  dir : List ℕ → ModifierView E H
  env : List ℕ → List ℕ → ModifierView E H
  env_remove : List ℕ → ModifierView E H
  full_env : Vars → ModifierView E H
  unchecked : ModifierView E H
  before_spawn : H → List E → ModifierView E H

-- a command with its words, a pipe from the left to the right, or a modifier around an expression;
-- ends are of type E, hooks of H
pub data TreeView (E H : Type 0) : Type 0 where
  command : List (List ℕ) → TreeView E H
  pipe : TreeView E H → TreeView E H → TreeView E H
  around : ModifierView E H → TreeView E H → TreeView E H

-- The tree of a node and its modifiers, as contracts see them, and its debug text.
use Rattle.std.specs.Prelude.{ℕ, List, [], ◌∷◌, codes, map, string_bytes, Option}
use Rattle.duct_system.specs.SpecView.{Vars, var_view}
use Rattle.duct_status.specs.Form.{Form, plain, quote, numbers, texts, joined, text_of}
use Rattle.std.specs.Arc.{arc_value}
use Rattle.duct_tree.specs.declared.tree.Modifier.{Modifier}
use Rattle.duct_tree.specs.declared.tree.Modifier.TheVariants.{StdinBytes, StdinPath, StdinFile, StdinNull, StdoutPath, StdoutFile, StdoutNull, StdoutCapture, StdoutToStderr, StderrPath, StderrFile, StderrNull, StderrCapture, StderrToStdout, StdoutStderrSwap, Dir, Env, EnvRemove, FullEnv, Unchecked, BeforeSpawn}
use Rattle.duct_tree.specs.declared.tree.Node.{Node, Cmd, Io', Pipe'}
use Rattle.duct_start.specs.TreeView.{ModifierView, TreeView, command, pipe, around, stdin_bytes, stdin_path, stdin_file, stdin_null, stdout_path, stdout_file, stdout_null, stdout_capture, stdout_to_stderr, stderr_path, stderr_file, stderr_null, stderr_capture, stderr_to_stdout, stdout_stderr_swap, dir, env, env_remove, full_env, unchecked, before_spawn}

-- a modifier, with its texts as lists of bytes
abbrev pub modifier_view : {E H : Type 0} → Modifier E H → ModifierView E H
modifier_view (StdinBytes bytes) = stdin_bytes (arc_value bytes).items
modifier_view (StdinPath path) = stdin_path (string_bytes path)
modifier_view (StdinFile end) = stdin_file end
modifier_view StdinNull = stdin_null
modifier_view (StdoutPath path) = stdout_path (string_bytes path)
modifier_view (StdoutFile end) = stdout_file end
modifier_view StdoutNull = stdout_null
modifier_view StdoutCapture = stdout_capture
modifier_view StdoutToStderr = stdout_to_stderr
modifier_view (StderrPath path) = stderr_path (string_bytes path)
modifier_view (StderrFile end) = stderr_file end
modifier_view StderrNull = stderr_null
modifier_view StderrCapture = stderr_capture
modifier_view StderrToStdout = stderr_to_stdout
modifier_view StdoutStderrSwap = stdout_stderr_swap
modifier_view (Dir path) = dir (string_bytes path)
modifier_view (Env name value) = env name (string_bytes value)
modifier_view (EnvRemove name) = env_remove name
modifier_view (FullEnv vars) = full_env (map var_view vars.entries)
modifier_view Unchecked = unchecked
modifier_view (BeforeSpawn hook ends) = before_spawn hook ends.items

-- a node with all nodes inside it
abbrev pub node_view : {E H : Type 0} → Node E H → TreeView E H
node_view (Cmd words) = command (map string_bytes (arc_value words).items)
node_view (Pipe' p left q right) = pipe (node_view left) (node_view right)
node_view (Io' modifier p inner) = around (modifier_view modifier) (node_view inner)

-- a name that ends with its opening parenthesis, then a form, then the closing parenthesis
abbrev pub named : List ℕ → Form → Form
named name form = joined (plain name ∷ form ∷ plain (codes ")") ∷ [])

-- some variables, with the lead before the first and a comma before each other one
abbrev pub vars_form : List ℕ → Vars → Form
vars_form lead [] = plain []
vars_form lead (variable ∷ vars) =
    joined (plain lead ∷ quote variable.0 ∷ plain (codes ": ") ∷ quote variable.1
    ∷ vars_form (codes ", ") vars ∷ [])

-- the form of a modifier; an end and a hook are not shown
abbrev pub modifier_form : {E H : Type 0} → ModifierView E H → Form
modifier_form (stdin_bytes bytes) = named (codes "StdinBytes(") (numbers bytes)
modifier_form (stdin_path path) = named (codes "StdinPath(") (quote path)
modifier_form (stdin_file end) = plain (codes "StdinFile(<end>)")
modifier_form stdin_null = plain (codes "StdinNull")
modifier_form (stdout_path path) = named (codes "StdoutPath(") (quote path)
modifier_form (stdout_file end) = plain (codes "StdoutFile(<end>)")
modifier_form stdout_null = plain (codes "StdoutNull")
modifier_form stdout_capture = plain (codes "StdoutCapture")
modifier_form stdout_to_stderr = plain (codes "StdoutToStderr")
modifier_form (stderr_path path) = named (codes "StderrPath(") (quote path)
modifier_form (stderr_file end) = plain (codes "StderrFile(<end>)")
modifier_form stderr_null = plain (codes "StderrNull")
modifier_form stderr_capture = plain (codes "StderrCapture")
modifier_form stderr_to_stdout = plain (codes "StderrToStdout")
modifier_form stdout_stderr_swap = plain (codes "StdoutStderrSwap")
modifier_form (dir path) = named (codes "Dir(") (quote path)
modifier_form (env name value) =
    joined (plain (codes "Env(") ∷ quote name ∷ plain (codes ", ") ∷ quote value ∷ plain (codes ")")
    ∷ [])
modifier_form (env_remove name) = named (codes "EnvRemove(") (quote name)
modifier_form (full_env vars) =
    joined (plain (codes "FullEnv({") ∷ vars_form [] vars ∷ plain (codes "})") ∷ [])
modifier_form unchecked = plain (codes "Unchecked")
modifier_form (before_spawn hook ends) = plain (codes "BeforeSpawn(<closure>)")

-- two forms in parentheses after a name
abbrev pub pair_form : List ℕ → Form → Form → Form
pair_form name one other =
    joined (plain name ∷ one ∷ plain (codes ", ") ∷ other ∷ plain (codes ")") ∷ [])

-- the form of a tree
abbrev pub tree_form : {E H : Type 0} → TreeView E H → Form
tree_form (command words) = named (codes "Cmd(") (texts words)
tree_form (pipe left right) = pair_form (codes "Pipe(") (tree_form left) (tree_form right)
tree_form (around modifier inner) =
    pair_form (codes "Io(") (modifier_form modifier) (tree_form inner)

-- the text of a tree, where all its texts are printable ASCII; else no promise
abbrev pub shown : {E H : Type 0} → TreeView E H → Option (List ℕ)
shown tree = text_of (tree_form tree)

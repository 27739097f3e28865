-- What a node does, as one row for each kind. All else about a kind of node is read off its row.
use Rattle.std.specs.Prelude.{ℕ, List, Some, None, Option}
use Rattle.duct_system.specs.declared.system.Side.{Side}
use Rattle.duct_system.specs.declared.system.Side.TheVariants as side
use Rattle.duct_start.specs.Surroundings.{VariableChange, Sets, Removes, Replaces}
use Rattle.duct_start.specs.TreeView.{ModifierView, stdin_bytes, stdin_path, stdin_file, stdin_null, stdout_path, stdout_file, stdout_null, stdout_capture, stdout_to_stderr, stderr_path, stderr_file, stderr_null, stderr_capture, stderr_to_stdout, stdout_stderr_swap, dir, env, env_remove, full_env, unchecked, before_spawn}

-- what a node opens before its inner expression: nothing, a pipe to read from that is fed these
-- bytes afterwards, a file to read, a file to create, or the one capture pipe of a stream
pub data RowOpening : Type 0 where
  opens_nothing : RowOpening
  opens_input : List ℕ → RowOpening
  opens_read : List ℕ → RowOpening
  opens_create : List ℕ → RowOpening
  opens_capture : Side → RowOpening

-- where a stream goes inside a node: where a stream that K names goes outside it, to nothing, to a
-- caller's end, or to what the node opens
pub data Route (K E : Type 0) : Type 0 where
  as_outside : K → Route K E
  to_nothing : Route K E
  to_lent : E → Route K E
  to_opened : Route K E

-- what a node sets: the folder, a change of variables, or a hook with its ends
pub data SettingView (E H : Type 0) : Type 0 where
  says_folder : List ℕ → SettingView E H
  says_change : VariableChange → SettingView E H
  says_hook : H → List E → SettingView E H

-- what the shape of a start shows of a node
pub data Mark : Type 0 where
  is_plain : Mark
  is_input : Mark
  is_unchecked : Mark

-- what a node does; stdin follows no other stream, and stdout and stderr follow stdout or stderr
pub record Row (E H : Type 0) : Type 0 where
  pub opens : RowOpening
  pub input : Route (Unit {0}) E
  pub output : Route Side E
  pub error : Route Side E
  pub says : Option (SettingView E H)
  pub mark : Mark

-- a node that does nothing
abbrev pub idle_row : {E H : Type 0} → Row E H
idle_row = record {
  opens = opens_nothing;
  input = as_outside tt;
  output = as_outside side.Out;
  error = as_outside side.Err;
  says = None;
  mark = is_plain;
}

-- the row of each kind of modifier
abbrev pub row : {E H : Type 0} → ModifierView E H → Row E H
row (stdin_bytes bytes) =
    record idle_row { opens = opens_input bytes; input = to_opened; mark = is_input }
row (stdin_path path) = record idle_row { opens = opens_read path; input = to_opened }
row (stdin_file end) = record idle_row { input = to_lent end }
row stdin_null = record idle_row { input = to_nothing }
row (stdout_path path) = record idle_row { opens = opens_create path; output = to_opened }
row (stdout_file end) = record idle_row { output = to_lent end }
row stdout_null = record idle_row { output = to_nothing }
row stdout_capture = record idle_row { opens = opens_capture side.Out; output = to_opened }
row stdout_to_stderr = record idle_row { output = as_outside side.Err }
row (stderr_path path) = record idle_row { opens = opens_create path; error = to_opened }
row (stderr_file end) = record idle_row { error = to_lent end }
row stderr_null = record idle_row { error = to_nothing }
row stderr_capture = record idle_row { opens = opens_capture side.Err; error = to_opened }
row stderr_to_stdout = record idle_row { error = as_outside side.Out }
row stdout_stderr_swap =
    record idle_row { output = as_outside side.Err; error = as_outside side.Out }
row (dir path) = record idle_row { says = Some (says_folder path) }
row (env name value) = record idle_row { says = Some (says_change (Sets name value)) }
row (env_remove name) = record idle_row { says = Some (says_change (Removes name)) }
row (full_env vars) = record idle_row { says = Some (says_change (Replaces vars)) }
row unchecked = record idle_row { mark = is_unchecked }
row (before_spawn hook ends) = record idle_row { says = Some (says_hook hook ends) }

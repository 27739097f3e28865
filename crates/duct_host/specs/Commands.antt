-- The commands that a host starts.
use Rattle.std.specs.Prelude.{◌≡◌, ℕ, ℤ, Bool, true, false, List, [], ◌∷◌, ◌++◌, None, Some, Option, codes}
use Rattle.std.specs.Fmt.{◌++?◌, decimal, signed_decimal}
use Rattle.std.specs.Process.{command_program, command_args, command_dir}
use Rattle.std.specs.declared.alloc.Global.{Global}
use Rattle.std.specs.declared.process.Command.{Command}
use Rattle.duct_system.specs.SpecView.{SpecView}
use Rattle.duct_host.specs.Variables.{IsWholeEnvironment}

-- a command has the words, the folder and the variables of a spec
pub record IsCommandOf (spec : SpecView) (command : Command Global) : Type 0 where
  pub words : command_program command ∷ command_args command ≡ spec.words
  pub folder : command_dir command ≡ spec.folder
  pub vars : IsWholeEnvironment spec.vars command

-- what comes between the signal and the id: a sign if the signal is for the group of the process
abbrev pub before_id : Bool → List ℕ
before_id true = codes " -"
before_id false = codes " "

-- the line by which a shell sends a signal to the process with this id, as `kill -15 4711`, or, if
-- this is true, to the group that it leads, as `kill -15 -4711`
abbrev pub kill_line : ℤ → Bool → ℕ → List ℕ
kill_line signal group id =
    codes "kill -" ++ signed_decimal signal ++ before_id group ++ decimal id

-- the same as std prints its parts
abbrev pub printed_line : ℤ → Bool → ℕ → Option (List ℕ)
printed_line signal group id =
    Some (codes "kill -") ++? Some (signed_decimal signal) ++? Some (before_id group)
    ++? Some (decimal id)

-- a command has the system's shell run a line, in the parent's folder and without variables
pub record RunsLine (line : List ℕ) (command : Command Global) : Type 0 where
  pub program : command_program command ≡ codes "/bin/sh"
  pub arguments : command_args command ≡ codes "-c" ∷ line ∷ []
  pub folder : command_dir command ≡ None
  pub vars : IsWholeEnvironment [] command

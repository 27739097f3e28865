-- The environment of a command that is to be started.
use Rattle.std.specs.Prelude.{◌≡◌, ℕ, List, true, fold, bytes_eq, Some, None, if◌then◌else◌, option_map, Option}
use Rattle.std.specs.Process.{command_var, clears_env, SameOtherVars}
use Rattle.std.specs.declared.alloc.Global.{Global}
use Rattle.std.specs.declared.process.Command.{Command}
use Rattle.duct_system.specs.SpecView.{Vars}

-- the value of a name once the variables are set in their order
abbrev pub value_set : List ℕ → Vars → Option (List ℕ)
value_set name vars = fold (λ said var. if bytes_eq var.0 name then Some var.1 else said) None vars

-- the command takes nothing from the parent's environment, and sets these variables and no other
abbrev pub IsWholeEnvironment : Vars → Command Global → Type 0
IsWholeEnvironment vars command = (clears_env command ≡ true)
    × ((name : List ℕ) → command_var command name ≡ option_map Some (value_set name vars))

-- one more variable is set, and nothing else of the environment has changed
abbrev pub Sets : List ℕ → List ℕ → Command Global → Command Global → Type 0
Sets name value old new =
    (clears_env new ≡ clears_env old) × (command_var new name ≡ Some (Some value))
    × SameOtherVars old new name

-- What the policies allow that come with the guard.
use Rattle.std.specs.Prelude.{ℕ, Bool, true, false, ◌&&◌, ◌||◌, ◌==◌, not, min, List, [], ◌∷◌, length, bytes_eq, codes, Some, None, Option}
use Rattle.std.specs.List.{list_all, list_any, starts_with}
use Rattle.std.specs.Path.{path_components, parent_dir, slash}
use Rattle.duct_system.specs.SpecView.{Vars}
use Rattle.duct_guard.specs.Rules.{RequestView, Rules, spawn, read, create}
use Rattle.duct_guard.specs.declared.counts.Counts.{Counts}

-- a limit that is none: more than any machine has
abbrev pub no_limit : ℕ
no_limit = 18446744073709551615

-- the limits of a policy that has none
abbrev pub unlimited : Counts
unlimited = record { ends = no_limit; children = no_limit }

-- everything
abbrev pub all_allowed : Rules
all_allowed = record {
  allows = λ asked. true;
  limits = unlimited;
  at_once = no_limit;
}

-- whether a request isn't to create a file
abbrev pub keeps_files : RequestView → Bool
keeps_files (create path) = false
keeps_files _ = true

-- all but to create files
abbrev pub read_only : Rules
read_only = record all_allowed { allows = keeps_files }

-- what both allow, within the limits of both
abbrev pub both_rules : Rules → Rules → Rules
both_rules one other = record {
  allows = λ asked. one.allows asked && other.allows asked;
  limits = record {
    ends = min one.limits.ends other.limits.ends;
    children = min one.limits.children other.limits.children;
  };
  at_once = min one.at_once other.at_once;
}

-- everything within these limits
abbrev pub limit_rules : Counts → Rules
limit_rules limits = record all_allowed { limits = limits }

-- everything while no more than this many children run
abbrev pub at_once_rules : ℕ → Rules
at_once_rules children = record all_allowed { at_once = children }

-- whether a text is one of these
abbrev pub is_listed : List (List ℕ) → List ℕ → Bool
is_listed names text = list_any (λ name. bytes_eq name text) names

-- whether a variable has exactly this name and this value
abbrev pub is_variable : List ℕ → List ℕ → List ℕ × List ℕ → Bool
is_variable name value pair = bytes_eq pair.0 name && bytes_eq pair.1 value

-- whether one of some variables has exactly this name and this value
abbrev pub has_value : List ℕ → List ℕ → Vars → Bool
has_value name value vars = list_any (is_variable name value) vars

-- whether a program is a name that is looked up on this PATH
abbrev pub is_found : Option (List ℕ) → Vars → List ℕ → Bool
is_found None vars program = false
is_found (Some path) vars program =
    not (list_any (λ byte. byte == slash) program) && has_value (codes "PATH") path vars

-- whether a text begins with `/`
abbrev pub begins_with_slash : List ℕ → Bool
begins_with_slash [] = false
begins_with_slash (byte ∷ bytes) = byte == slash

-- the allowed programs, and the PATH on which names are looked up
pub record ProgramsView : Type 0 where
  pub names : List (List ℕ)
  pub path : Option (List ℕ)

-- whether the first of some words is an allowed program, whose file doesn't depend on the child's
-- folder
abbrev pub is_program_of : ProgramsView → Vars → List (List ℕ) → Bool
is_program_of programs vars [] = false
is_program_of programs vars (program ∷ arguments) =
    is_listed programs.names program
    && (begins_with_slash program || is_found programs.path vars program)

-- whether a request starts no other program than these
abbrev pub starts_listed : ProgramsView → RequestView → Bool
starts_listed programs (spawn spec) = is_program_of programs spec.vars spec.words
starts_listed programs _ = true

-- all, but of children only those by these programs
abbrev pub program_rules : ProgramsView → Rules
program_rules programs = record all_allowed { allows = starts_listed programs }

-- the given variables, and the names of those that a child may have with other values
pub record VariablesView : Type 0 where
  pub given : Vars
  pub free : List (List ℕ)

-- whether a variable has a free name, or is among these
abbrev pub is_kept : List (List ℕ) → Vars → List ℕ × List ℕ → Bool
is_kept free vars pair = is_listed free pair.0 || has_value pair.0 pair.1 vars

-- whether all of some variables have free names, or are among these
abbrev pub are_kept : List (List ℕ) → Vars → Vars → Bool
are_kept free vars some = list_all (is_kept free vars) some

-- whether a child has the given variables and no others, but for those with free names
abbrev pub keeps_variables : VariablesView → RequestView → Bool
keeps_variables policy (spawn spec) =
    are_kept policy.free policy.given spec.vars && are_kept policy.free spec.vars policy.given
keeps_variables policy _ = true

-- all but other children
abbrev pub variable_rules : VariablesView → Rules
variable_rules policy = record all_allowed { allows = keeps_variables policy }

-- whether a path has `..` among its names
abbrev pub climbs : List ℕ → Bool
climbs path = list_any (λ name. bytes_eq name parent_dir) (path_components path)

-- whether a path lies at or below a folder, as both are written; nothing lies below an empty text
abbrev pub is_below : List ℕ → List ℕ → Bool
is_below path folder =
    not (length folder == 0)
    && starts_with bytes_eq (path_components path) (path_components folder)

-- whether a path lies at or below one of these folders, as it is written
abbrev pub lies_within : List (List ℕ) → List ℕ → Bool
lies_within folders path = not (climbs path) && list_any (is_below path) folders

-- whether a request opens no file elsewhere
abbrev pub opens_within : List (List ℕ) → RequestView → Bool
opens_within folders (read path) = lies_within folders path
opens_within folders (create path) = lies_within folders path
opens_within folders _ = true

-- all, but of files only those at or below these folders
abbrev pub folder_rules : List (List ℕ) → Rules
folder_rules folders = record all_allowed { allows = opens_within folders }

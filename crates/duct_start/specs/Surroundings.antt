-- The surroundings of a command: what it finds on its path to the root.
use Rattle.std.specs.Prelude.{ℕ, List, Some, None, if◌then◌else◌, [], ◌∷◌, option_map, Option}
use Rattle.duct_system.specs.Name.{is_same_name}
use Rattle.duct_system.specs.SpecView.{Vars, variable_in, said_of, spelled}
use Rattle.duct_system.specs.declared.spec.Stream.{Stream}
use Rattle.duct_system.specs.declared.spec.Stream.TheVariants.{In, Out, Err}

-- where a stream goes: to the parent's own stream, to nothing, to an end of the pipe or to the file
-- that the item at this place of the plan opened, or to a caller's end
pub data Target (E : Type 0) : Type 0 where
  Parents : Stream → Target E
  Nothing : Target E
  ReaderAt : ℕ → Target E
  WriterAt : ℕ → Target E
  FileAt : ℕ → Target E
  Lends : E → Target E

-- how a node changes the variables: it sets a name to a value, removes a name, or replaces all
-- variables by these
pub data VariableChange : Type 0 where
  Sets : List ℕ → List ℕ → VariableChange
  Removes : List ℕ → VariableChange
  Replaces : Vars → VariableChange

-- the folder of the nearest node that sets one; the changes of variables, the nearest first; where
-- the three streams go; and the hooks, the outermost first, each with its ends
pub record Surroundings (E H : Type 0) : Type 0 where
  pub folder : Option (List ℕ)
  pub changes : List VariableChange
  pub input : Target E
  pub output : Target E
  pub error : Target E
  pub hooks : List (H × List E)

-- where a stream goes
abbrev pub target_of : {E H : Type 0} → Surroundings E H → Stream → Target E
target_of found In = found.input
target_of found Out = found.output
target_of found Err = found.error

-- the spelling and the value of a variable. The nearest change that names it or replaces all
-- variables decides its value. A change that sets it keeps the spelling that is found further out,
-- and uses its own spelling if none is found there. Without a change, the variable is as the system
-- returned it
abbrev pub variable : Vars → List VariableChange → List ℕ → Option (List ℕ × List ℕ)
variable pairs [] name = said_of name pairs
variable pairs (Sets other value ∷ changes) name =
    let further = variable pairs changes name in
    if is_same_name name other then Some (spelled other further, value) else further
variable pairs (Removes other ∷ changes) name =
    if is_same_name name other then None else variable pairs changes name
variable pairs (Replaces vars ∷ changes) name = variable_in name vars

-- the value of a variable
abbrev pub value_found : Vars → List VariableChange → List ℕ → Option (List ℕ)
value_found pairs changes name = option_map (λ pair. pair.1) (variable pairs changes name)

-- the surroundings of a command with no node around it
abbrev pub root_surroundings : {E H : Type 0} → Surroundings E H
root_surroundings =
    record {
      folder = None;
      changes = [];
      input = Parents In;
      output = Parents Out;
      error = Parents Err;
      hooks = [];
    }

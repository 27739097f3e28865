-- What contracts see of a command's spec.
use Rattle.std.specs.Prelude.{ℕ, Bool, false, ◌||◌, List, [], ◌∷◌, ◌≡◌, Some, None, if◌then◌else◌, codes, nat_eq, not, map, filter, string_bytes, option_map, Option, String}
use Rattle.std.specs.Borrow.{Bor}
use Rattle.std.specs.BTreeMap.{insert_entry}
use Rattle.std.specs.List.{ends_with}
use Rattle.std.specs.List.Sorted.{IsStrictlySortedBy}
use Rattle.std.specs.Map.{keys_of, lookup_entry}
use Rattle.std.specs.Str.{bytes_eq}
use Rattle.duct_system.specs.Name.{is_same_name, name_cmp}
use Rattle.duct_system.specs.declared.spec.Port.{Port}
use Rattle.duct_system.specs.declared.spec.Port.TheVariants.{Given}
use Rattle.duct_system.specs.declared.spec.Stream.{Stream}
use Rattle.duct_system.specs.declared.spec.Stream.TheVariants.{In, Out, Err}

-- names with their values, each name in its spelling
abbrev pub Vars : Type 0
Vars = List (List ℕ × List ℕ)

-- each name occurs once, in any spelling, and the names ascend
abbrev pub AreOrdered : Vars → Type 0
AreOrdered vars = IsStrictlySortedBy name_cmp (keys_of vars)

-- the words, the folder, the variables in order of name, and the three streams
pub record SpecView : Type 0 where
  pub words : List (List ℕ)
  pub folder : Option (List ℕ)
  pub vars : Vars
  pub input : Port
  pub output : Port
  pub error : Port

-- whether a command with these words leads a group of processes: its program is `setsid`, or a path
-- that ends so
abbrev pub leads : List (List ℕ) → Bool
leads [] = false
leads (program ∷ words) =
    bytes_eq program (codes "setsid") || ends_with nat_eq program (codes "/setsid")

-- the variable with this name, if there is one: its spelling and its value
abbrev pub variable_in : List ℕ → Vars → Option (List ℕ × List ℕ)
variable_in name vars = lookup_entry (is_same_name name) vars

-- the value of the variable with this name, if there is one
abbrev pub value_of : List ℕ → Vars → Option (List ℕ)
value_of name vars = option_map (λ pair. pair.1) (variable_in name vars)

-- the variables after this name was set to this value: a spelling that is already there is kept
abbrev pub with_var : List ℕ → List ℕ → Vars → Vars
with_var name value vars = insert_entry name_cmp vars name value

-- the variables without this name, in any spelling
abbrev pub without_var : List ℕ → Vars → Vars
without_var name vars = filter (λ pair. not (is_same_name name pair.0)) vars

-- the spelling of a name: the one that is already there, or else this one
abbrev pub spelled : List ℕ → Option (List ℕ × List ℕ) → List ℕ
spelled name None = name
spelled name (Some pair) = pair.0

-- the last value that some variables have for a name, or else this one
abbrev pub last_value : List ℕ → List ℕ → Vars → List ℕ
last_value name value [] = value
last_value name value (pair ∷ vars) =
    last_value name (if is_same_name name pair.0 then pair.1 else value) vars

-- the variable with this name after these were set one by one: its first spelling and its last
-- value
abbrev pub said_of : List ℕ → Vars → Option (List ℕ × List ℕ)
said_of name [] = None
said_of name (pair ∷ vars) =
    if is_same_name name pair.0 then Some (pair.0, last_value name pair.1 vars)
    else said_of name vars

-- a name, and the text of its value
abbrev pub var_view : {Z : Type 0} → List ℕ × String Z → List ℕ × List ℕ
var_view p = (p.0, string_bytes p.1)

-- the texts of a name and of its value
abbrev pub pair_text : {Z : Type 0} → String Z × String Z → List ℕ × List ℕ
pair_text p = (string_bytes p.0, string_bytes p.1)

-- the port of a stream
abbrev pub port_of : Stream → SpecView → Port
port_of In spec = spec.input
port_of Out spec = spec.output
port_of Err spec = spec.error

-- the texts of some words
abbrev pub texts_of : List (Bor (List ℕ)) → List (List ℕ)
texts_of words = map (λ word. word.now) words

-- the spec with this stream set to Given
abbrev pub gives : Stream → SpecView → SpecView
gives In spec = record spec { input = Given }
gives Out spec = record spec { output = Given }
gives Err spec = record spec { error = Given }

-- no stream is Given afterwards that was not Given before
abbrev pub GivesNothing : SpecView → SpecView → Type 0
GivesNothing before after =
    (stream : Stream) → port_of stream after ≡ Given → port_of stream before ≡ Given

-- a borrowed spelling with a borrowed value
abbrev pub pair_seen : Bor (List ℕ) × Bor (List ℕ) → List ℕ × List ℕ
pair_seen pair = (pair.0.now, pair.1.now)

-- the streams of two specs have the same ports
pub record HaveSamePorts (one other : SpecView) : Type 0 where
  pub input_is : one.input ≡ other.input
  pub output_is : one.output ≡ other.output
  pub error_is : one.error ≡ other.error

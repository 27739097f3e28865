-- The spec that is made for a command in its scope, or the canonical path that was refused.
use Rattle.std.specs.Prelude.{ℕ, List, ◌≡◌, string_bytes, Some, None, true, Err, Option, String}
use Rattle.duct_system.specs.Journal.{JournalView, IsRefused}
use Rattle.duct_system.specs.SpecView.{SpecView, Vars, AreOrdered, variable_in, port_of}
use Rattle.duct_system.specs.declared.spec.Port.{Port}
use Rattle.duct_system.specs.declared.spec.Stream.{Stream}
use Rattle.duct_run.specs.Actions.{Scope, PerStream, port_in}
use Rattle.duct_start.specs.Asked.{with_program}
use Rattle.duct_start.specs.Chain.{Allows, resolved_port}
use Rattle.duct_run.specs.Commands.{NameSucceeds, asks_canonical_path}
use Rattle.duct_start.specs.Surroundings.{VariableChange, variable}
use Rattle.duct_start.specs.Plan.{program_of}
use Rattle.duct_system.specs.EntryView.{Canonicalize}
use Rattle.duct_system.specs.declared.error.Error.{Error}
use Rattle.duct_system.specs.declared.error.Error.TheVariants.{System}
use Rattle.duct_system.specs.declared.system.Fault.{Fault}

-- the program of some words: its canonical path where that was asked for, else the first word
abbrev pub program_text : {Z : Type 0} → Option (String Z) → List (List ℕ) → List ℕ
program_text None words = program_of words
program_text (Some program) words = string_bytes program

-- the spec has these words with this program, this folder, the variables with these changes, each
-- name once and in order, and these ports
pub record IsMade (pairs : Vars) (program : List ℕ) (folder : Option (List ℕ))
    (changes : List VariableChange) (words : List (List ℕ)) (ports : PerStream Port)
    (spec : SpecView) : Type 0 where
  pub words_are : spec.words ≡ with_program program words
  pub folder_is : spec.folder ≡ folder
  pub vars_are : (name : List ℕ) → variable_in name spec.vars ≡ variable pairs changes name
  pub vars_ordered : AreOrdered spec.vars
  pub ports_are : (stream : Stream) → port_of stream spec ≡ port_in ports stream

-- the spec is made with the canonical path of the program, where that was asked for
pub record IsPrepared {E H : Type 0} (allows : Allows H) (number_of : E → ℕ) (pairs : Vars)
    (scope : Scope E H) (words : List (List ℕ)) (ports : PerStream Port) (now next : JournalView)
    (spec : SpecView) : Type 0 where
  pub program : List ℕ
  pub names : NameSucceeds {E = E} {H = H} allows number_of scope words now next program
  pub made : IsMade pairs program scope.folder scope.changes words ports spec

-- the spec with a given end for each stream that names a place
abbrev pub with_places_found : SpecView → SpecView
with_places_found spec = record spec {
  input = resolved_port spec.input;
  output = resolved_port spec.output;
  error = resolved_port spec.error;
}

-- the command needs the canonical path of its program, and the system refused it with this error
pub record NameRefused {E H : Type 0} (scope : Scope E H) (words : List (List ℕ))
    (now next : JournalView) (error : Error) : Type 0 where
  pub fault : Fault
  pub error_is : error ≡ System fault
  pub asked : asks_canonical_path scope words ≡ true
  pub refused : IsRefused (Canonicalize (program_of words) (Err fault)) 0 fault now next

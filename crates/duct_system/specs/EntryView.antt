-- An entry of the journal as contracts see it: texts as lists of bytes, ends and children by their
-- numbers, a spec as the record of its parts.
use Rattle.std.specs.Prelude.{ℕ, List, map, string_bytes, Ok, Err, Result}
use Rattle.duct_system.specs.SpecView.{SpecView, Vars, pair_text}
use Rattle.duct_system.specs.declared.system.Fault.{Fault}
use Rattle.duct_system.specs.declared.system.Side.{Side}
use Rattle.duct_system.specs.declared.system.Stdio.{Stdio}
use Rattle.std.specs.Arc.{arc_value}
use Rattle.duct_system.specs.declared.system.Entry.{Entry}
use Rattle.duct_system.specs.declared.system.Entry.TheVariants as entry

-- one entry: the request, then its result; Reader and Close can't fail
pub data EntryView : Type 0 where
  Environment : Result Vars Fault → EntryView
  Pipe : Result (ℕ × ℕ) Fault → EntryView
  OpenRead : List ℕ → Result ℕ Fault → EntryView
  Create : List ℕ → Result ℕ Fault → EntryView
  Duplicate : ℕ → Result ℕ Fault → EntryView
  Parent : Side → Result ℕ Fault → EntryView
  Canonicalize : List ℕ → Result (List ℕ) Fault → EntryView
  Spawn : SpecView → List (Stdio ℕ) → Result ℕ Fault → EntryView
  Feed : ℕ → List ℕ → Result (Unit {0}) Fault → EntryView
  Drain : ℕ → Result (Unit {0}) Fault → EntryView
  Reader : ℕ → EntryView
  Close : ℕ → EntryView

-- a result with this function applied to what was returned
abbrev pub answer_of : {T U : Type 0} → (T → U) → Result T Fault → Result U Fault
answer_of f (Ok it) = Ok (f it)
answer_of f (Err fault) = Err fault

-- what contracts see of an entry
abbrev pub entry_view : Entry → EntryView
entry_view (entry.Environment (Ok pairs)) = Environment (Ok (map pair_text pairs.items))
entry_view (entry.Environment (Err fault)) = Environment (Err fault)
entry_view (entry.Pipe answer) = Pipe answer
entry_view (entry.OpenRead path answer) = OpenRead (string_bytes path) answer
entry_view (entry.Create path answer) = Create (string_bytes path) answer
entry_view (entry.Duplicate lent answer) = Duplicate lent answer
entry_view (entry.Parent side answer) = Parent side answer
entry_view (entry.Canonicalize path (Ok text)) =
    Canonicalize (string_bytes path) (Ok (string_bytes text))
entry_view (entry.Canonicalize path (Err fault)) = Canonicalize (string_bytes path) (Err fault)
entry_view (entry.Spawn spec io answer) = Spawn spec io answer
entry_view (entry.Feed number bytes answer) = Feed number (arc_value bytes).items answer
entry_view (entry.Drain number answer) = Drain number answer
entry_view (entry.Reader number) = Reader number
entry_view (entry.Close number) = Close number

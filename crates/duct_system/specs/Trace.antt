-- What a call added to the journal, and which of these entries a plan covers.
use Rattle.std.specs.Prelude.{Bool, true, false, List, [], ◌∷◌, ◌≡◌, length, drop, filter, Err, Some, None, IfSome, Option}
use Rattle.duct_system.specs.EntryView.{EntryView, Environment, Pipe, OpenRead, Create, Duplicate, Parent, Canonicalize, Spawn, Feed, Drain, Close}
use Rattle.duct_system.specs.declared.system.Fault.{Fault}

-- the entries of the new journal after those of the old one
abbrev pub segment : List EntryView → List EntryView → List EntryView
segment old new = drop (length old) new

-- whether a plan covers such an entry: all but duplicates, ends of the parent's streams, and closes
abbrev pub is_traced : EntryView → Bool
is_traced (Duplicate lent answer) = false
is_traced (Parent side answer) = false
is_traced (Close number) = false
is_traced _ = true

-- the entries that a plan covers, in order
abbrev pub trace : List EntryView → List EntryView
trace entries = filter is_traced entries

-- whether an entry is a close
abbrev pub is_close : EntryView → Bool
is_close (Close number) = true
is_close _ = false

-- the fault of an entry, if the system refused its request
abbrev pub fault_of : EntryView → Option Fault
fault_of (Environment (Err fault)) = Some fault
fault_of (Pipe (Err fault)) = Some fault
fault_of (OpenRead path (Err fault)) = Some fault
fault_of (Create path (Err fault)) = Some fault
fault_of (Duplicate lent (Err fault)) = Some fault
fault_of (Parent side (Err fault)) = Some fault
fault_of (Canonicalize path (Err fault)) = Some fault
fault_of (Spawn spec io (Err fault)) = Some fault
fault_of (Feed number bytes (Err fault)) = Some fault
fault_of (Drain number (Err fault)) = Some fault
fault_of _ = None

-- no entry has a fault
abbrev pub IsClean : List EntryView → Type 0
IsClean [] = Unit {0}
IsClean (entry ∷ entries) = (fault_of entry ≡ None) × IsClean entries

-- each entry is a close
abbrev pub OnlyCloses : List EntryView → Type 0
OnlyCloses [] = Unit {0}
OnlyCloses (entry ∷ entries) = (is_close entry ≡ true) × OnlyCloses entries

-- after an entry with a fault there are only closes
abbrev pub StopsAtFault : List EntryView → Type 0
StopsAtFault [] = Unit {0}
StopsAtFault (entry ∷ entries) =
    IfSome (fault_of entry) (λ fault. OnlyCloses entries) × StopsAtFault entries

-- The request that made a start fail, what it says of the start's error, and its text.
use Rattle.std.specs.Prelude.{List, ◌≡◌, ◌-◌, length, is_some, slice_get, Some, None, if◌then◌else◌, IfSome, string_bytes, option_and_then, Option, String}
use Rattle.std.specs.declared.alloc.Global.{Global}
use Rattle.duct_system.specs.EntryView.{EntryView}
use Rattle.duct_system.specs.Trace.{fault_of}
use Rattle.duct_system.specs.declared.error.Error.{Error}
use Rattle.duct_system.specs.declared.error.Error.TheVariants.{System, Hook, HookEnd, Memory}
use Rattle.duct_system.specs.declared.system.Fault.{Fault}
use Rattle.duct_system.specs.declared.system.Kind.TheVariants.{OutOfMemory}
use Rattle.duct_base.specs.EntryForm.{entry_text}
use Rattle.duct_start.specs.Causes.{asked_in}

-- the last entry that is not a close
abbrev pub last_asked : List EntryView → Option EntryView
last_asked entries = slice_get (asked_in entries) (length (asked_in entries) - 1)

-- an entry, if it has a fault
abbrev pub if_refused : EntryView → Option EntryView
if_refused entry = if is_some (fault_of entry) then Some entry else None

-- the last entry that is not a close, if it has a fault
abbrev pub failed_request : List EntryView → Option EntryView
failed_request entries = option_and_then if_refused (last_asked entries)

-- the error of a start that failed is the fault of its failed request; where there is none, it is
-- an allocation failure or an error of a hook
abbrev pub Explains : Option EntryView → Error → Type 0
Explains (Some entry) error =
    (fault : Fault) × (fault_of entry ≡ Some fault) × (error ≡ System fault)
Explains None (System fault) = fault.kind ≡ OutOfMemory
Explains None (Hook fault) = Unit {0}
Explains None (HookEnd place) = Unit {0}
Explains None Memory = Unit {0}
Explains None other = ⊥

-- the text of this entry, where one is promised; or there is neither
abbrev pub IsTextOf : Option EntryView → Option (String Global) → Type 0
IsTextOf None None = Unit {0}
IsTextOf None (Some text) = ⊥
IsTextOf (Some entry) None = ⊥
IsTextOf (Some entry) (Some text) = IfSome (entry_text entry) (λ said. string_bytes text ≡ said)

-- if a request is named, it is the failed one of the added entries
abbrev pub Names : List EntryView → Option (String Global) → Type 0
Names added request = IfSome request (λ text. IsTextOf (failed_request added) (Some text))

-- What contracts see of a recording, what a recorder notes in it, and what is replayed from it.
use Rattle.std.specs.Prelude.{ℕ, List, [], ◌∷◌, ◌==◌, if◌then◌else◌, Some, None, option_map, Option, Bool, true, false, ◌≡◌, ◌⊎◌, Ok, Err, Result, Vec, ◌++◌, IfSome, All}
use Rattle.duct_system.specs.EntryView.{EntryView}
use Rattle.duct_system.specs.declared.system.ExitStatus.{ExitStatus}
use Rattle.std.specs.Arc.{arc_value}
use Rattle.std.specs.declared.alloc.Global.{Global}
use Rattle.std.specs.declared.sync.Arc.{Arc}
use Rattle.duct_system.specs.Child.{Answer, Obeyed}
use Rattle.duct_system.specs.declared.system.Fault.{Fault}
use Rattle.duct_system.specs.declared.system.Kind.TheVariants.{OutOfMemory, Other}
use Rattle.duct_system.specs.declared.system.Said.{Said}
use Rattle.duct_system.specs.declared.system.Said.TheVariants as said
use Rattle.std.specs.Io.KnownBytes.{Consumes}

-- an owner of bytes that may have other owners
abbrev pub Shared : Type 0
Shared = Arc (Vec ℕ Global) Global

-- the bytes that it owns
abbrev pub bytes_of : Shared → List ℕ
bytes_of shared = (arc_value shared).items

-- the entries; the exit statuses of children, and the bytes that ends were read to, by their
-- numbers
pub record RecordingView : Type 0 where
  pub entries : List EntryView
  pub endings : List (ℕ × ExitStatus)
  pub outputs : List (ℕ × Shared)

-- what stands first for a number, if something does
abbrev pub listed : {T : Type 0} → ℕ → List (ℕ × T) → Option T
listed number [] = None
listed number (pair ∷ pairs) = if pair.0 == number then Some pair.1 else listed number pairs

-- the exit status of the child with this number, if it is recorded: what stands first for it
abbrev pub status_of : ℕ → RecordingView → Option ExitStatus
status_of number recording = listed number recording.endings

-- what is read of the end with this number, if it is recorded: what stands first for it
abbrev pub output_of : ℕ → RecordingView → Option (List ℕ)
output_of number recording = option_map bytes_of (listed number recording.outputs)

-- the fault of a request that is not what was recorded next
abbrev pub unrecorded : Fault
unrecorded = record { kind = Other }

-- the fault at an allocation failure
abbrev pub no_memory : Fault
no_memory = record { kind = OutOfMemory }

-- what a poll of a child returns: its exit status, or Other where none is recorded
abbrev pub told_of : Option ExitStatus → Answer
told_of (Some status) = Ok (Some status)
told_of None = Err unrecorded

-- a poll of a child returns that
abbrev pub IsEnded : ℕ → Answer → Type 0
IsEnded number answer = (status : Option ExitStatus) × (answer ≡ told_of status)

-- an order that is noted is obeyed
abbrev pub IsObeyed : Bool → Obeyed → Type 0
IsObeyed true obeyed = obeyed ≡ Ok tt
IsObeyed false obeyed = Unit {0}

-- what a worker that reads says once it is done: its bytes, or Other where none are recorded
abbrev pub read_of : Option (List ℕ) → Said (List ℕ)
read_of (Some bytes) = said.Done bytes
read_of None = said.Fault unrecorded

-- a poll of a worker that reads says that, or Running where its bytes can have no further owner
abbrev pub MayRead : {T : Type 0} → ℕ → Said T → Type 0
MayRead number (said.Fault fault) = fault ≡ unrecorded
MayRead number _ = Unit {0}

-- the bytes that were found, if they could have one more owner
abbrev pub had : Result (Option Shared) Fault → Option Shared
had (Ok found) = found
had (Err fault) = None

-- two owners of equal bytes
abbrev pub SameBytes : Shared → Shared → Type 0
SameBytes one other = bytes_of other ≡ bytes_of one

-- the bytes of what was said, whoever owns them
abbrev pub bytes_said : Said Shared → Said (List ℕ)
bytes_said said.Running = said.Running
bytes_said (said.Done shared) = said.Done (bytes_of shared)
bytes_said (said.Fault fault) = said.Fault fault

-- what is recorded was said if it is done, and nothing before
abbrev pub SaysBytes : Bool → Option (List ℕ) → Said Shared → Type 0
SaysBytes is_done found answer =
    bytes_said answer ≡ (if is_done then read_of found else said.Running)

-- a poll returned what is recorded, or Running
abbrev pub HasRead : Option (List ℕ) → Said Shared → Type 0
HasRead found answer = (bytes_said answer ≡ read_of found) ⊎ (bytes_said answer ≡ said.Running)

-- a poll of the child with this number may have returned this exit status
abbrev pub MayEnd : (ℕ → Answer → Type 0) → ℕ → ExitStatus → Type 0
MayEnd may_answer number status = may_answer number (Ok (Some status))

-- the reader of the end with this number, which was this one first, returned these bytes since
pub record HasGiven {R : Type 0} (may_read : ℕ → R → Type 0) (remaining : R → Option (List ℕ))
    (number : ℕ) (bytes : List ℕ) (reader : R) : Type 0 where
  pub first : R
  pub is_first : may_read number first
  pub given : Consumes (remaining first) (remaining reader) bytes

-- a reader of the end with this number returned these bytes, which were all that it had, where
-- that is known
pub record HasGivenAll {R : Type 0} (may_read : ℕ → R → Type 0) (remaining : R → Option (List ℕ))
    (number : ℕ) (bytes : List ℕ) : Type 0 where
  pub first : R
  pub is_first : may_read number first
  pub all_are : IfSome (remaining first) (λ all. all ≡ bytes)

-- the same, or a poll of the worker of this end may have returned these bytes
pub data MayGive {R : Type 0} (may_read : ℕ → R → Type 0) (remaining : R → Option (List ℕ))
    (may_say : ℕ → Said Shared → Type 0) (number : ℕ) (bytes : List ℕ) : Type 0 where
  ByReader : HasGivenAll may_read remaining number bytes
      → MayGive may_read remaining may_say number bytes
  ByWorker : (shared : Shared) → may_say number (said.Done shared) → bytes_of shared ≡ bytes
      → MayGive may_read remaining may_say number bytes

-- behind its entries this recording has nothing but what may have been noted: exit statuses of
-- children, and bytes of ends
pub record NotesOnly {R : Type 0} (may_answer : ℕ → Answer → Type 0) (may_read : ℕ → R → Type 0)
    (remaining : R → Option (List ℕ)) (may_say : ℕ → Said Shared → Type 0)
    (recording : RecordingView) : Type 0 where
  pub endings : All (λ pair. ∥ MayEnd may_answer pair.0 pair.1 ∥₁) recording.endings
  pub outputs : All (λ pair. ∥ MayGive may_read remaining may_say pair.0 (bytes_of pair.1) ∥₁)
      recording.outputs

-- what is kept, if anything is, is what was kept before, followed by these bytes
abbrev pub KeepsMore : {N : Type 0} → Option (N × Vec ℕ Global) → List ℕ
    → Option (N × Vec ℕ Global) → Type 0
KeepsMore old bytes None = Unit {0}
KeepsMore None bytes (Some new) = ⊥
KeepsMore (Some old) bytes (Some new) = new.1.items ≡ old.1.items ++ bytes

-- What was written of given bytes, and what was read from a reader.
use Rattle.std.specs.Prelude.{◌≡◌, ◌≢◌, ℕ, List, ◌++◌, Ok, Err, None, Some, Option, Result}
use Rattle.std.specs.Io.KnownBytes.{Appends, Consumes}
use Rattle.std.specs.IoError.{error_kind}
use Rattle.std.specs.declared.io.Error.{Error}
use Rattle.std.specs.declared.io.ErrorKind.{ErrorKind}
use Rattle.std.specs.declared.io.ErrorKind.TheVariants as error
use Rattle.duct_system.specs.Kinds.{kind_of}
use Rattle.duct_system.specs.declared.system.Fault.{Fault}
use Rattle.duct_system.specs.declared.system.Kind.TheVariants.{OutOfMemory}

-- what a writer holds, where that is known, grew by a prefix of these bytes, which may be all of
-- them
abbrev pub AppendsFront : Option (List ℕ) → Option (List ℕ) → List ℕ → Type 0
AppendsFront old new bytes = (front rest : List ℕ) × (bytes ≡ front ++ rest) × Appends old new front

-- the kind of the error that stops a writer or a reader at this result of a write or a read
abbrev pub stop_of : Result ℕ Error → Option ErrorKind
stop_of (Ok n) = None
stop_of (Err error) = Some (error_kind error)

-- all of these bytes were written, in order, if nothing stopped the writer; if an error stopped it,
-- a prefix of them, and the error is no interruption
abbrev pub Writes : Option (List ℕ) → Option (List ℕ) → List ℕ → Option ErrorKind → Type 0
Writes old new bytes None = Appends old new bytes
Writes old new bytes (Some kind) = AppendsFront old new bytes × (kind ≢ error.Interrupted)

-- the fault of what stopped a writer or a reader
abbrev pub stop_fault : ErrorKind → Fault
stop_fault kind = record { kind = kind_of kind }

-- what a feed returns at what stopped its writer: a broken pipe is no fault
abbrev pub fed : Option ErrorKind → Result (Unit {0}) Fault
fed None = Ok tt
fed (Some error.BrokenPipe) = Ok tt
fed (Some kind) = Err (stop_fault kind)

-- the fault of a drain is that of what stopped its reader; if nothing did, the list couldn't grow
abbrev pub IsDrainFault : Option ErrorKind → Fault → Type 0
IsDrainFault None fault = fault.kind ≡ OutOfMemory
IsDrainFault (Some kind) fault = fault ≡ stop_fault kind

-- what a reader has left, where that is known, lost a prefix, which may be empty
abbrev pub ConsumesFront : Option (List ℕ) → Option (List ℕ) → Type 0
ConsumesFront old new = (front : List ℕ) × Consumes old new front

-- What a failure's cause is, which path its text names, and what it becomes as an `io::Error`.
use Rattle.std.specs.Prelude.{ℕ, List, ◌≡◌, ◌++◌, codes}
use Rattle.std.specs.declared.io.ErrorKind.{ErrorKind}
use Rattle.std.specs.declared.io.ErrorKind.TheVariants as kind
use Rattle.std.specs.IoError.{error_kind}
use Rattle.std.specs.declared.env.VarError.TheVariants as variable
use Rattle.duct_system.specs.declared.error.Error.{Error}
use Rattle.duct_system.specs.Kinds.{name_of}
use Rattle.duct_system.specs.declared.error.Error.TheVariants as error
use Rattle.duct_tasks.specs.declared.lines.LinesError.{LinesError}
use Rattle.duct_tasks.specs.declared.lines.LinesError.TheVariants as lines
use Rattle.duct_shell.specs.declared.failure.Cause.{Cause}
use Rattle.duct_shell.specs.declared.failure.Cause.TheVariants as cause

-- the cause is an error of the library, and this holds of it
abbrev pub IsRunAnd : Cause → (Error → Type 0) → Type 0
IsRunAnd (cause.Run e) holds = holds e
IsRunAnd (cause.Io e) holds = ⊥
IsRunAnd (cause.Variable e) holds = ⊥
IsRunAnd (cause.Failed run) holds = ⊥
IsRunAnd (cause.Late late) holds = ⊥
IsRunAnd cause.NoJob holds = ⊥

-- a text has a path in front, then a colon and a space
abbrev pub NamesPath : List ℕ → List ℕ → Type 0
NamesPath path text = (behind : List ℕ) × (text ≡ path ++ (codes ": " ++ behind))

-- the kind of the `io::Error` that a failure with this cause becomes: that of its fault or of its
-- `io::Error`, or of the same meaning
abbrev pub io_kind : Cause → ErrorKind
io_kind (cause.Run (error.System fault)) = name_of fault.kind
io_kind (cause.Run (error.Hook fault)) = name_of fault.kind
io_kind (cause.Run error.NotUtf8) = kind.InvalidData
io_kind (cause.Run error.Memory) = kind.OutOfMemory
io_kind (cause.Run other) = kind.Other
io_kind (cause.Io e) = error_kind e
io_kind (cause.Variable variable.NotPresent) = kind.NotFound
io_kind (cause.Variable variable.NotUnicode) = kind.InvalidData
io_kind (cause.Variable variable.OutOfMemory) = kind.OutOfMemory
io_kind (cause.Failed run) = kind.Other
io_kind (cause.Late late) = kind.TimedOut
io_kind cause.NoJob = kind.InvalidInput

-- the cause for which lines are not handed on any more
abbrev pub lines_cause : LinesError → Cause
lines_cause (lines.Run e) = cause.Run e
lines_cause (lines.Closure e) = cause.Io e

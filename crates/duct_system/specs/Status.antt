-- The success, the code and the signal of an exit status.
use Rattle.std.specs.Prelude.{Bool, true, false, ℤ, pos, zero, Some, None, Option}
use Rattle.duct_system.specs.declared.system.ExitStatus.{ExitStatus}
use Rattle.duct_system.specs.declared.system.ExitStatus.TheVariants.{Code, Signal}

-- whether it is a success: code 0, and nothing else
abbrev pub is_success : ExitStatus → Bool
is_success (Code (pos zero)) = true
is_success _ = false

-- the code that it exited with, if it did
abbrev pub code_of : ExitStatus → Option ℤ
code_of (Code code) = Some code
code_of (Signal signal) = None

-- the signal that ended it, if one did
abbrev pub signal_of : ExitStatus → Option ℤ
signal_of (Code code) = None
signal_of (Signal signal) = Some signal

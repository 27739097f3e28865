-- How a child ended, by what std says of its status.
use Rattle.std.specs.Prelude.{◌≡◌, ℤ, pos, negsuc, Bool, true, false, ◌&&◌, nat_lt, Some, None, Ok, Err, option_map, Option, Result}
use Rattle.std.specs.Process.{exit_code, exit_signal}
use Rattle.std.specs.declared.process.ExitStatus as machine
use Rattle.duct_system.specs.Child.{Answer}
use Rattle.duct_system.specs.declared.system.ExitStatus.{ExitStatus}
use Rattle.duct_system.specs.declared.system.ExitStatus.TheVariants.{Code, Signal}
use Rattle.duct_system.specs.declared.system.Fault.{Fault}
use Rattle.duct_system.specs.declared.system.Kind.TheVariants.{Other}

-- the code if there is one, otherwise the signal; a status with neither is the fault `Other`
abbrev pub ending_said : Option ℤ → Option ℤ → Result ExitStatus Fault
ending_said (Some code) signal = Ok (Code code)
ending_said None (Some signal) = Ok (Signal signal)
ending_said None None = Err (record { kind = Other })

-- that a child runs where its process has no status, or else how it ended, which is then no fault
abbrev pub IsTold : Option machine.ExitStatus → Option ExitStatus → Type 0
IsTold status found = option_map (λ s. ending_said (exit_code s) (exit_signal s)) status
    ≡ option_map Ok found

-- whether the machine can tell this of a child: an exit code below 256, or a signal from 1 to 126
abbrev pub can_end : ExitStatus → Bool
can_end (Code (pos code)) = nat_lt code 256
can_end (Code (negsuc code)) = false
can_end (Signal (pos signal)) = nat_lt 0 signal && nat_lt signal 127
can_end (Signal (negsuc signal)) = false

-- whether a poll can return this: that the child runs, an ending that the machine can tell, or a
-- fault
abbrev pub can_answer : Answer → Bool
can_answer (Ok None) = true
can_answer (Ok (Some status)) = can_end status
can_answer (Err fault) = true

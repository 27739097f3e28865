-- What an order to a child that leads a group of processes returns.
use Rattle.std.specs.Prelude.{◌≡◌, ℤ, pos, Bool, true, false, Ok, Err, None, Some, Option, Result}
use Rattle.duct_system.specs.Child.{Obeyed}
use Rattle.duct_system.specs.declared.system.ExitStatus.{ExitStatus}
use Rattle.duct_system.specs.declared.system.Fault.{Fault}
use Rattle.duct_system.specs.declared.system.Kind.TheVariants.{Other}
use Rattle.duct_system.specs.declared.system.Order.{Order}
use Rattle.duct_system.specs.declared.system.Order.TheVariants.{Kill, Signal}

-- the number of the signal of an order
abbrev pub signal_of : Order → ℤ
signal_of Kill = pos 9
signal_of (Signal signal) = signal

-- what a shell that ended with this code, or by a signal, says of the signal that it sent: code 0
-- that it was sent, code 1 that there is no such process, and anything else nothing
abbrev pub SentBy : Option ℤ → Result Bool Fault → Type 0
SentBy code (Ok true) = code ≡ Some (pos 0)
SentBy code (Ok false) = code ≡ Some (pos 1)
SentBy code (Err fault) =
    (fault.kind ≡ Other) × (code ≡ Some (pos 0) → ⊥) × (code ≡ Some (pos 1) → ⊥)

-- the result of an order to a group, by how its leader was seen to end and by what the shell said:
-- Ok where it was sent; where it was not and the leader has ended, Ok if the group is gone too, or
-- else the fault; and none where the leader has not been seen to end, since it may lead none yet
abbrev pub IsGroupAnswer : Option ExitStatus → Result Bool Fault → Option Obeyed → Type 0
IsGroupAnswer seen (Ok true) answer = answer ≡ Some (Ok tt)
IsGroupAnswer (Some ending) (Ok false) answer = answer ≡ Some (Ok tt)
IsGroupAnswer (Some ending) (Err fault) answer = answer ≡ Some (Err fault)
IsGroupAnswer None (Ok false) answer = answer ≡ None
IsGroupAnswer None (Err fault) answer = answer ≡ None

-- What the children, the workers and the readers of the small system return.
use Rattle.std.specs.Prelude.{ℕ, Bool, true, false, List, [], codes, ◌≡◌, max, min, pos, Ok, Some}
use Rattle.std.specs.Arc.{arc_value}
use Rattle.duct_system.specs.Child.{Answer, Obeyed}
use Rattle.duct_system.specs.declared.system.ExitStatus.{ExitStatus}
use Rattle.duct_system.specs.declared.system.ExitStatus.TheVariants.{Code}
use Rattle.duct_system.specs.declared.system.Said.{Said}
use Rattle.duct_system.specs.declared.system.Said.TheVariants as said
use Rattle.duct_running.specs.Stored.{Bytes}

-- the exit status of the child with this number: the number as its code, at least 1 and at most 255
abbrev pub exit_of : ℕ → ExitStatus
exit_of number = Code (pos (min (max number 1) 255))

-- a poll returns this status
abbrev pub MayAnswer : ℕ → Answer → Type 0
MayAnswer number answer = answer ≡ Ok (Some (exit_of number))

-- an order that is noted is obeyed
abbrev pub MayObey : Bool → Obeyed → Type 0
MayObey true obeyed = obeyed ≡ Ok tt
MayObey false obeyed = Unit {0}

-- what each reader and each capture worker reads
abbrev pub printed : List ℕ
printed = codes "hello"

-- a worker that writes may return anything, since none is started
abbrev pub MayFeed : ℕ → Said (Unit {0}) → Type 0
MayFeed number said = Unit {0}

-- a worker that reads returns that it runs, or these bytes
abbrev pub MayDrain : ℕ → Said Bytes → Type 0
MayDrain number said.Running = Unit {0}
MayDrain number (said.Done bytes) = (arc_value bytes).items ≡ printed
MayDrain number (said.Fault fault) = ⊥

-- what is captured of a stream that has a capture worker, and of one that has none
abbrev pub captured_if : Bool → List ℕ
captured_if true = printed
captured_if false = []

-- What a poll of a worker returns, with the bytes of the result in place of an owner of them.
use Rattle.std.specs.Prelude.{ℕ, List}
use Rattle.duct_system.specs.declared.system.Said.{Said}
use Rattle.duct_system.specs.declared.system.Said.TheVariants.{Running, Done, Fault}

-- what a poll returned, whoever owns the result
abbrev pub word_of : {T : Type 0} → (T → List ℕ) → Said T → Said (List ℕ)
word_of bytes_of Running = Running
word_of bytes_of (Done result) = Done (bytes_of result)
word_of bytes_of (Fault fault) = Fault fault

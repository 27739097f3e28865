-- Which endings the statuses of the machine come to.
use Rattle.std.specs.Prelude.{ℕ, Bool, true, false, pos, Some, None, IfOk, IsTrue, ◌==◌, ◌||◌, ◌%◌, ◌/◌, nat_lt, if◌then◌else◌}
use Rattle.std.specs.Process.{exit_code, exit_signal}
use Rattle.std.specs.declared.process.ExitStatus as machine
use Rattle.std.proofs.Common.{◌≡◌, ◌<◌, refl, arith}
use Rattle.std.proofs.lemmas.Bool.{and_from, eqb-false, lt-ltb}
use Rattle.std.proofs.lemmas.Nat.{mod_below}
use Rattle.duct_host.specs.Endings.{can_end, ending_said}

-- by whether the low bits of a status are 0, and whether they are 127
pub ending_from_bits : (exited stopped : Bool) (low code : ℕ) →
    (low == 0) ≡ exited → (low == 127) ≡ stopped → low < 128 → code < 256 →
    IfOk (ending_said (if exited then Some (pos code) else None) (if exited || stopped then None else Some (pos low)))
    (λ ending. IsTrue (can_end ending))
ending_from_bits true stopped low code zero same below small = lt-ltb code 256 small
ending_from_bits false true low code zero same below small = tt
ending_from_bits false false low code zero same below small =
    let some : 0 < low = omega (arith, eqb-false low 0 zero) in
    let other : low < 127 = omega (arith, below, eqb-false low 127 same) in
    and_from (nat_lt 0 low) (nat_lt low 127) (lt-ltb 0 low some) (lt-ltb low 127 other)

-- what any status comes to
pub ending_possible : (status : machine.ExitStatus) →
    IfOk (ending_said (exit_code status) (exit_signal status)) (λ ending. IsTrue (can_end ending))
ending_possible status =
    ending_from_bits (status.bits % 128 == 0) (status.bits % 128 == 127) (status.bits % 128) (status.bits / 256 % 256)
    refl refl (mod_below status.bits 128 (omega arith)) (mod_below (status.bits / 256) 256 (omega arith))

-- Where stdout's capture pipe is open, there is room to give away its two ends.
use Rattle.std.proofs.Common.{◌≡◌, ℕ, ◌≤◌, List, ◌++◌, true, length, arith, length-append, Some, None, is_some, Option}
use Rattle.duct_run.proofs.Common.{PerSide, ends_of_pipes, pipe_ends}

two_open : (pipe : Option (ℕ × ℕ)) → is_some pipe ≡ true → 2 ≤ length (pipe_ends pipe)
two_open (Some pair) is = omega arith
two_open None is = absurd (cc)

pub two_spent : (stack : List ℕ) (pipes : PerSide (Option (ℕ × ℕ))) → is_some pipes.out ≡ true → (room : ℕ)
    → length (stack ++ ends_of_pipes pipes) ≤ room → 2 ≤ room
two_spent stack pipes is room fits =
    omega (arith, fits, two_open pipes.out is, length-append stack (ends_of_pipes pipes), length-append (pipe_ends pipes.out) (pipe_ends pipes.err))

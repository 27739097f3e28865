-- The two capture pipes once one of them is another one.
use Rattle.std.proofs.Common.{◌≡◌, ℕ, ◌+◌, length, arith, length-append, None, Option}
use Rattle.duct_run.proofs.Common.{count_of, Side, at_side, with_side, PerSide, ends_of_pipes, pipe_ends, no_pipes, count-append}
use Rattle.duct_system.specs.declared.system.Side.TheVariants.{Out, Err}

-- what holds of both values of each side, still does with two new values for one side
pub each_with : {A B : Type 0} (R : A → B → Type 0) (xs : PerSide A) (ys : PerSide B) (which : Side)
    (x : A) (y : B) → R x y → ((each : Side) → R (at_side xs each) (at_side ys each))
    → (each : Side) → R (at_side (with_side xs which x) each) (at_side (with_side ys which y) each)
each_with R xs ys Out x y one all Out = one
each_with R xs ys Out x y one all Err = all Err
each_with R xs ys Err x y one all Out = all Out
each_with R xs ys Err x y one all Err = one

-- what holds of two closed pipes holds of each side where no pipe is open
pub each_none : {A B : Type 0} (R : Option A → Option B → Type 0) → R None None → (each : Side)
    → R (at_side no_pipes each) (at_side no_pipes each)
each_none R none Out = none
each_none R none Err = none

-- how often a number is in the pipes
pub counts_with : (n : ℕ) (pipes : PerSide (Option (ℕ × ℕ))) (which : Side) (pipe : Option (ℕ × ℕ))
    → count_of n (ends_of_pipes (with_side pipes which pipe)) + count_of n (pipe_ends (at_side pipes which))
    ≡ count_of n (ends_of_pipes pipes) + count_of n (pipe_ends pipe)
counts_with n pipes Out pipe = omega (arith, count-append n (pipe_ends pipe) (pipe_ends pipes.err), count-append n (pipe_ends pipes.out) (pipe_ends pipes.err))
counts_with n pipes Err pipe = omega (arith, count-append n (pipe_ends pipes.out) (pipe_ends pipe), count-append n (pipe_ends pipes.out) (pipe_ends pipes.err))

-- how many ends the pipes have
pub length_with : (pipes : PerSide (Option (ℕ × ℕ))) (which : Side) (pipe : Option (ℕ × ℕ))
    → length (ends_of_pipes (with_side pipes which pipe)) + length (pipe_ends (at_side pipes which))
    ≡ length (ends_of_pipes pipes) + length (pipe_ends pipe)
length_with pipes Out pipe = omega (arith, length-append (pipe_ends pipe) (pipe_ends pipes.err), length-append (pipe_ends pipes.out) (pipe_ends pipes.err))
length_with pipes Err pipe = omega (arith, length-append (pipe_ends pipes.out) (pipe_ends pipe), length-append (pipe_ends pipes.out) (pipe_ends pipes.err))

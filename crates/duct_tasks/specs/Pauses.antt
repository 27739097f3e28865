-- Pauses, each longer than the one before.
use Rattle.std.specs.Prelude.{◌≡◌, ℕ, zero, suc, ◌*◌, ◌==◌, if◌then◌else◌, min}
use Rattle.std.specs.Duration.{as_nanos, max_nanos}
use Rattle.std.specs.declared.time.Duration.{Duration}
use Rattle.duct_tasks.specs.Until.{HasPassed}

-- how long the pause is after one of so many nanoseconds, which is the first where that is none
abbrev pub longer_than : Duration → Duration → ℕ → ℕ
longer_than first greatest before =
    min (if before == 0 then as_nanos first else min (before * 2) max_nanos) (as_nanos greatest)

-- how long the last of so many pauses is
abbrev pub pause_after : Duration → Duration → ℕ → ℕ
pause_after first greatest zero = 0
pause_after first greatest (suc before) =
    longer_than first greatest (pause_after first greatest before)

-- the clock has shown the moments between which the last of so many pauses lies
abbrev pub HasRested : (Duration → Type 0) → Duration → Duration → ℕ → Type 0
HasRested shows first greatest pauses =
    (pause : Duration) × (as_nanos pause ≡ pause_after first greatest pauses)
    × HasPassed shows pause

-- The winning command: the one that beats every other one.
use Rattle.std.proofs.Common.{inl, inr, ◌≡◌, ℕ, ◌<◌, ◌⊎◌, min, if◌then◌else◌, Bool, not, ◌&&◌, ◌||◌}
use Rattle.duct_system.specs.Status.{is_success}
use Rattle.duct_status.specs.Endings.{Endings, ending, pipe, unchecked, Way, status_at, is_checked}

-- 0 for a success, 1 for a failure that an unchecked of this tree wraps, 2 for any other failure
abbrev pub level : (t : Endings) → Way t → ℕ
level (ending texts status) way = if is_success status then 0 else 2
level (pipe l r) (inl way) = level l way
level (pipe l r) (inr way) = level r way
level (unchecked t) way = min 1 (level t way)

-- a command on the left, of level a, beats one on the right, of level b: the higher level wins, or
-- of two successes the left one
abbrev pub LeftBeats : ℕ → ℕ → Type 0
LeftBeats a b = (b < a) ⊎ ((a ≡ b) × (a ≡ 0))

-- a command on the right, of level b, beats one on the left, of level a: the higher level wins, or
-- of two failures the right one
abbrev pub RightBeats : ℕ → ℕ → Type 0
RightBeats b a = (a < b) ⊎ ((a ≡ b) × (0 < b))

-- one command beats another: this is decided at the pipe where their ways part, by their levels on
-- its sides
abbrev pub Beats : (t : Endings) → Way t → Way t → Type 0
Beats (ending texts status) one other = ⊥
Beats (pipe l r) (inl one) (inl other) = Beats l one other
Beats (pipe l r) (inr one) (inr other) = Beats r one other
Beats (pipe l r) (inl one) (inr other) = LeftBeats (level l one) (level r other)
Beats (pipe l r) (inr one) (inl other) = RightBeats (level r one) (level l other)
Beats (unchecked t) one other = Beats t one other

-- the command beats every other one
abbrev pub IsWinner : (t : Endings) → Way t → Type 0
IsWinner t winner = (other : Way t) → (winner ≡ other) ⊎ Beats t winner other

-- whether this command failed
abbrev pub is_failure : (t : Endings) → Way t → Bool
is_failure t way = not (is_success (status_at t way))

-- whether this command failed and no unchecked wraps it
abbrev pub is_checked_failure : (t : Endings) → Way t → Bool
is_checked_failure t way = is_failure t way && is_checked t way

-- whether the right side of a pipe is chosen: it is a checked failure, or it is a failure and the
-- left side is no checked failure
abbrev pub takes_right : (l r : Endings) → Way l → Way r → Bool
takes_right l r left right =
    is_checked_failure r right || (not (is_checked_failure l left) && is_failure r right)

-- the chosen command: at each pipe, one of the two that were chosen on its sides
abbrev pub chosen : (t : Endings) → Way t
chosen (ending texts status) = tt
chosen (pipe l r) = if takes_right l r (chosen l) (chosen r) then inr (chosen r) else inl (chosen l)
chosen (unchecked t) = chosen t
